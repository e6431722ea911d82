use Rattle.std.proofs.Common.{◌≡◌, ◌+◌, ◌++◌, ◌∷◌, ◌∙◌}
use Rattle.msrp_plan.proofs.Common.{[], length, vec_len, rules, ap, sym, arith}
use Rattle.msrp_merge.proofs.Common.{LogModel, turn_of, turns_from}
use Rattle.msrp_merge.proofs.Keeping.{from_length, from_push}
use Rattle.msrp_merge.proofs.logs.CoreLog.push.Goals as goal

pub push_reserved-requires : goal.push_reserved-requires
push_reserved-requires c =
    let many : vec_len c.self.inside.kept ≡ length c.self.inside.kept.items = search rules in
    let kept = from_length c.self.inside.core.0 0 c.self.inside.kept.items in
    let turns = ap (λ (l : LogModel). length l.turns) c.self.view_is in
    let ticks = ap (λ (l : LogModel). l.ticks) c.self.view_is in
    let tick = c.requires.tick in
    let room = c.requires.room in
    let all = c.self.invariant.1 in
    omega (arith, many, kept, turns, ticks, tick, room, all)

pub invariant_of-self : goal.invariant_of-self
invariant_of-self c =
    let many : vec_len c.self.inside.kept ≡ length c.self.inside.kept.items = search rules in
    let kept = from_length c.self.inside.core.0 0 c.self.inside.kept.items in
    let turns = ap (λ (l : LogModel). length l.turns) c.self.view_is in
    let ticks = ap (λ (l : LogModel). l.ticks) c.self.view_is in
    let tick = c.requires.tick in
    let room = c.requires.room in
    let all = c.self.invariant.1 in
    let len = c.push_reserved.ensures.len in
    let capacity = c.push_reserved.ensures.capacity in
    (omega (arith, many, kept, turns, ticks, tick, room, len), omega (arith, all, capacity))

pub returns : goal.returns
returns c =
    let core = c.self.inside.core.0 in
    let kept = c.self.inside.kept.items in
    let many = from_length core 0 kept in
    let turns = ap (λ (l : LogModel). length l.turns) c.self.view_is in
    let ours = ap (λ (l : LogModel). l.core) c.self.view_is in
    let own = c.requires.core in
    let due = c.requires.tick in
    let tick : 0 + length kept ≡ c.args.row.tick = omega (arith, many, turns, due) in
    let by : core ≡ c.args.row.core.0 = ours ∙ sym own in
    let last = ap (λ n. turn_of n (0 + length kept) c.of.result) by ∙ (ap (λ t. turn_of c.args.row.core.0 t c.of.result) tick ∙ c.of.ensures) in
    let now = ap (turns_from core 0) c.push_reserved.ensures.items ∙ (from_push core 0 kept c.of.result ∙ ap (λ x. turns_from core 0 kept ++ x ∷ []) last) in
    ap (λ ts. record { core = core; ticks = c.self.inside.ticks; turns = ts }) now ∙ ap (λ (l : LogModel). record { core = l.core; ticks = l.ticks; turns = l.turns ++ record { row = c.args.row; place = c.args.place } ∷ [] }) c.self.view_is
