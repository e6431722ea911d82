use Rattle.std.proofs.Common.{◌≡◌}
use Rattle.msrp_plan.proofs.Common.{rules, codes}
use Rattle.clap.specs.Words.{app_of, new_app, new_rule, rule_of}
use Rattle.msrp_view.specs.CommandLine.{grammar}
use Rattle.msrp_view.proofs.cli.grammar.Goals as goal

pub returns : goal.returns
unfolding grammar
returns c =
    let begun : app_of c.about.result ≡ new_app (codes "msrp_view") = search rules in
    let trace : rule_of c.help.result ≡ new_rule (codes "TRACE") = search rules in
    let text = c.with_arg-made.ensures _ _ begun c.flag.ensures.rule c.flag.ensures.own in
    let svg = c.with_arg-made-2.ensures _ _ text c.flag-2.ensures.rule c.flag-2.ensures.own in
    let from = c.with_arg-made-3.ensures _ _ svg c.valued.ensures.rule c.valued.ensures.own in
    let to = c.with_arg-made-4.ensures _ _ from c.valued-2.ensures.rule c.valued-2.ensures.own in
    let why = c.with_arg-made-5.ensures _ _ to c.flag-3.ensures.rule c.flag-3.ensures.own in
    let vcd = c.with_arg-made-6.ensures _ _ why c.flag-4.ensures.rule c.flag-4.ensures.own in
    let gtkw = c.with_arg-made-7.ensures _ _ vcd c.flag-5.ensures.rule c.flag-5.ensures.own in
    let perfetto = c.with_arg-made-8.ensures _ _ gtkw c.flag-6.ensures.rule c.flag-6.ensures.own in
    let html = c.with_arg-made-9.ensures _ _ perfetto c.flag-7.ensures.rule c.flag-7.ensures.own in
    let tick = c.with_arg-made-10.ensures _ _ html c.valued-3.ensures.rule c.valued-3.ensures.own in
    let version = c.with_arg-made-11.ensures _ _ tick c.version.ensures.rule c.version.ensures.own in
    let plan = c.with_arg-made-12.ensures _ _ version c.path.ensures.rule c.path.ensures.own in
    c.with_arg.ensures _ _ plan trace (search rules)
