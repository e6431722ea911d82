use Rattle.std.proofs.Common.{◌≡◌, ◌-◌, ◌∙◌}
use Rattle.msrp_plan.proofs.Common.{ap, count_by, fifo, is_release_of, length, length-drop, sym}
use Rattle.msrp_export.proofs.Counts.{requests_are}
use Rattle.msrp_export.proofs.summary.Summary.resource_state.Goals as goal

pub returns : goal.returns
returns c = λ rows is.
    let g = c.args.resource.0 in
    let used = is.uses g c.requires in
    let left = ap (λ n. n - count_by (is_release_of g) rows) (requests_are g rows) in
    let queued : c.saturating_sub.result ≡ length (fifo g rows) = c.saturating_sub.ensures ∙ (ap (λ u. u.requests - u.releases) used ∙ sym (length-drop _ _ ∙ left)) in
    let holds = ap (λ u. u.holder) used in
    cc
