use Rattle.std.proofs.Common.{◌≡◌, ◌+◌, ◌∙◌}
use Rattle.msrp_plan.proofs.Common.{get_or, length, vec_len, rules, ap, sym, arith}
use Rattle.msrp_merge.proofs.Common.{LogModel, turn_of}
use Rattle.msrp_merge.proofs.Keeping.{from_at, from_length}
use Rattle.msrp_merge.proofs.logs.CoreLog.turn.Goals as goal

pub index-requires : goal.index-requires
index-requires c =
    let many : vec_len c.self.inside.kept ≡ length c.self.inside.kept.items = search rules in
    let kept = from_length c.self.inside.core.0 0 c.self.inside.kept.items in
    let turns = ap (λ (l : LogModel). length l.turns) c.self.view_is in
    let low = c.requires in
    omega (arith, many, kept, turns, low)

pub returns : goal.returns
returns c = λ d.
    let core = c.self.inside.core.0 in
    let kept = c.self.inside.kept.items in
    let many = from_length core 0 kept in
    let turns = ap (λ (l : LogModel). length l.turns) c.self.view_is in
    let low = c.requires in
    let tick : 0 + c.args.tick ≡ c.args.tick = omega arith in
    let at = from_at core 0 c.args.tick kept d c.index.result.now (omega (arith, many, turns, low)) in
    c.turn.ensures ∙ (ap (turn_of core c.args.tick) c.index.ensures ∙ (ap (λ t. turn_of core t (get_or kept c.args.tick c.index.result.now)) (sym tick) ∙ (sym at ∙ ap (λ (l : LogModel). get_or l.turns c.args.tick d) c.self.view_is)))
