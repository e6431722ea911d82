-- The jobs in a queue, by the counts of its requests and releases.
use Rattle.std.proofs.Common.{◌≡◌, ◌+◌, ◌&&◌, ◌∷◌, ◌∙◌}
use Rattle.msrp_plan.proofs.Common.{ℕ, Bool, true, false, cond, List, [], arith, length, Option, Some, None, refl, count_by, is_some, cons_option, sum_by-cons, sym, is_on, is_request, requester}
use Rattle.std.specs.Prelude.{filter_map}
use Rattle.msrp_plan.specs.declared.ids.JobId.{JobId}
use Rattle.msrp_plan.specs.declared.rows.Row.{Row}
use Rattle.msrp_export.specs.Signals.{is_request_of}

-- there are as many requesters as requests
pub requests_are : (g : ℕ) (rows : List Row) → length (filter_map (requester g) rows) ≡ count_by (is_request_of g) rows
requests_are g [] = refl
requests_are g (r ∷ rows) = one_more (is_on g r.res) (is_request r.kind) r.job (requests_are g rows) ∙ sym (sum_by-cons (λ x. cond (is_request_of g x) 1 0) r rows)
  where
    one_more : (on asks : Bool) (j : Option JobId) → length (filter_map (requester g) rows) ≡ count_by (is_request_of g) rows
        → length (cons_option (cond (on && asks) j None) (filter_map (requester g) rows)) ≡ cond (on && (is_some j && asks)) 1 0 + count_by (is_request_of g) rows
    one_more true true None e = omega (arith, e)
    one_more true true (Some j) e = omega (arith, e)
    one_more true false None e = omega (arith, e)
    one_more true false (Some j) e = omega (arith, e)
    one_more false asks j e = omega (arith, e)
