-- What a global resource replies is told by the rows on it alone.
use Rattle.msrp_plan.specs.Common.{ℕ, Bool, true, false, cond, List, [], Some, drop, filter_map, cons_option, is_on, is_release, is_release_of, requester, fifo, is_reply_of, replies_on, is_fifo_reply, rows_on}
use Rattle.msrp_plan.specs.declared.ids.JobId.{JobId}
use Rattle.msrp_plan.specs.declared.ids.ResId.{ResId}
use Rattle.msrp_plan.specs.declared.rows.Row.{Row}
use Rattle.std.proofs.Common.{◌≡◌, ◌∷◌, refl, ap, sym, ◌∙◌}
use Rattle.std.proofs.lemmas.Bool.{and_parts}
use Rattle.msrp_plan.proofs.Lists.Filters.{count_within, all_of}

-- who requests the resource does so in a row on it
requests_go : (g : ℕ) (r : Row) (rows : List Row) (on : Bool) (ys : List JobId) → on ≡ is_on g r.res → filter_map (requester g) rows ≡ ys → filter_map (requester g) (cond on (r ∷ rows) rows) ≡ cons_option (requester g r) ys
requests_go g r rows true ys e h = ap (cons_option (requester g r)) h
requests_go g r rows false ys e h = h ∙ rw (← e) refl

-- the requests of the resource stand in the rows on it
requests_on : (g : ℕ) (pre : List Row) → filter_map (requester g) (rows_on g pre) ≡ filter_map (requester g) pre
requests_on g [] = refl
requests_on g (r ∷ pre) = requests_go g r (rows_on g pre) (is_on g r.res) (filter_map (requester g) pre) refl (requests_on g pre)

-- so the rows on a resource make its queue
pub fifo_local : (g : ℕ) (pre : List Row) → fifo g (rows_on g pre) ≡ fifo g pre
fifo_local g pre =
    ap (λ n. drop n (filter_map (requester g) (rows_on g pre))) (count_within (is_release_of g) (λ r. is_on g r.res) pre (all_of _ (λ r h. (and_parts (is_on g r.res) (is_release r.kind) h).0) pre))
    ∙ ap (drop _) (requests_on g pre)

-- and tell whether a row on it has its reply
pub reply_local : (g : ResId) (pre : List Row) (r : Row) → r.res ≡ Some g → is_fifo_reply (rows_on g.0 pre) r ≡ is_fifo_reply pre r
reply_local g pre r e = ap (λ o. replies_on (rows_on g.0 pre) o r) e ∙ (ap (λ q. is_reply_of q r) (fifo_local g.0 pre) ∙ ap (λ o. replies_on pre o r) (sym e))
