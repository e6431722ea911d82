use Rattle.std.proofs.Common.{◌≡◌, ◌+◌, ◌++◌, ◌∷◌, ◌∙◌}
use Rattle.msrp_plan.proofs.Common.{[], Some, take, get_or, append_assoc, append-nil, ap, sym, subst, arith, option_to_list, take_more, get_or-map}
use Rattle.msrp_ready.proofs.Common.{earlier_of, entry_key, entry_keys}
use Rattle.msrp_ready.proofs.Entries.{no_entry, keyed_length}
use Rattle.msrp_ready.proofs.Ahead.{IsFirstOf, first_alone, first_more}
use Rattle.msrp_ready.proofs.keyed.first_of.Goals as goal

pub loop-entry-init : goal.loop-entry-init
loop-entry-init c = subst (IsFirstOf c.args.one) (sym (append-nil (option_to_list c.args.one))) (first_alone c.args.one)

pub loop-entry-preserved : goal.loop-entry-preserved
loop-entry-preserved c =
    let at = c.loop-entry.entry-index in
    let plan = c.args.plan.now in
    let entries = c.args.entries.now in
    let jobs = entry_keys plan entries in
    let one = option_to_list c.args.one in
    let job = entry_key plan (get_or entries at no_entry) in
    let within = c.loop-entry-test.true in
    let last : take (at + 1) jobs ≡ take at jobs ++ job ∷ [] = take_more jobs at job (omega (arith, within, keyed_length plan entries)) ∙ ap (λ k. take at jobs ++ k ∷ []) (get_or-map (entry_key plan) entries at no_entry job within) in
    let more : (one ++ take at jobs) ++ job ∷ [] ≡ one ++ take (at + 1) jobs = append_assoc one (take at jobs) (job ∷ []) ∙ ap (λ l. one ++ l) (sym last) in
    let told : c.earlier.result ≡ earlier_of job c.loop-entry.first = c.earlier.ensures ∙ ap (λ k. earlier_of k c.loop-entry.first) c.of.ensures in
    subst (IsFirstOf (Some c.earlier.result)) more (subst (λ k. IsFirstOf (Some k) ((one ++ take at jobs) ++ job ∷ [])) (sym told) (first_more c.loop-entry.first (one ++ take at jobs) job c.loop-entry.invariant))
