use Rattle.std.proofs.Common.{◌∙◌}
use Rattle.msrp_plan.proofs.Common.{wrote-more}
use Rattle.msrp_report.proofs.writing.write_line.Goals as goal

pub returns : goal.returns
returns g c =
    let name = rw (c.as_bytes.ensures.value ∙ c.task_name.ensures) at c.add.ensures in
    let core = rw (c.from.ensures ∙ c.core_of.ensures) at c.number.ensures in
    wrote-more _ _ _ _ _ _ name (wrote-more _ _ _ _ _ _ core (
    wrote-more _ _ _ _ _ _ (rw c.from-2.ensures at c.number-2.ensures) (wrote-more _ _ _ _ _ _ (rw c.from-3.ensures at c.number-3.ensures) (wrote-more _ _ _ _ _ _ (rw c.from-4.ensures at c.number-4.ensures) (
    wrote-more _ _ _ _ _ _ (rw c.from-5.ensures at c.number-5.ensures) (wrote-more _ _ _ _ _ _ (rw c.from-6.ensures at c.number-6.ensures) (wrote-more _ _ _ _ _ _ (rw c.from-7.ensures at c.number-7.ensures) (
    wrote-more _ _ _ _ _ _ (rw c.from-8.ensures at c.number-8.ensures) (wrote-more _ _ _ _ _ _ (rw c.from-9.ensures at c.number-9.ensures) (wrote-more _ _ _ _ _ _ (rw c.from-10.ensures at c.number-10.ensures) (
    wrote-more _ _ _ _ _ _ (rw c.from-11.ensures at c.number-11.ensures) c.add-2.ensures)))))))))))
