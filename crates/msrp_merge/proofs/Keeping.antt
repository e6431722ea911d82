-- What a log keeps of its turns tells them.
use Rattle.std.proofs.Common.{◌≡◌, ◌+◌, ◌<◌, ◌∷◌, ◌++◌, ◌∙◌}
use Rattle.msrp_plan.proofs.Common.{ℕ, zero, suc, Option, List, [], length, get_or, is_some, refl, ap, sym, arith, same_row}
use Rattle.msrp_merge.proofs.Common.{JobId, Place, ResId, Row, Turn, place_of_touch, turn_of, turns_from, unwrap_or}
use Rattle.msrp_plan.specs.Shape.{ahead_of_kind, job_of_kind, res_of_kind}
use Rattle.msrp_plan.proofs.KindParts.{ahead_told, job_told, res_told, same_parts}
use Rattle.msrp_merge.specs.declared.kept.Kept.{Kept}

-- ---- one turn
-- a row and a place that are what is told
pub shown : (core tick : ℕ) (e : Kept) (row : Row) (place : Option Place) → row.tick ≡ tick → row.core.0 ≡ core → row.kind ≡ e.kind → row.job ≡ job_of_kind e.kind e.job → row.res ≡ res_of_kind e.kind e.res → row.ahead ≡ ahead_of_kind e.kind e.carries e.ahead → place ≡ place_of_touch e.touch e.number
    → ◌≡◌ {A = Turn} (record { row = row; place = place }) (turn_of core tick e)
shown core tick e row place t c k j g a p =
    let due : Turn = turn_of core tick e in
    let same : row ≡ due.row = same_row row due.row (same_parts row due.row t (ap (λ n. record { 0 = n }) c) k j g a) in
    ap (λ r. record { row = r; place = place }) same ∙ ap (λ q. record { row = due.row; place = q }) p

-- what is kept of a row and a place
pub record Keeps (row : Row) (place : Option Place) (e : Kept) : Type 0 where
  pub kind : e.kind ≡ row.kind
  pub d_job : JobId
  pub job : e.job ≡ unwrap_or row.job d_job
  pub d_res : ResId
  pub res : e.res ≡ unwrap_or row.res d_res
  pub carries : e.carries ≡ is_some row.ahead
  pub d_ahead : ℕ
  pub ahead : e.ahead ≡ unwrap_or row.ahead d_ahead
  pub at : place_of_touch e.touch e.number ≡ place

pub told : (row : Row) (place : Option Place) (e : Kept) → Keeps row place e → turn_of row.core.0 row.tick e ≡ record { row = row; place = place }
told row place e k =
    let job = ap (λ n. job_of_kind n e.job) k.kind ∙ (ap (job_of_kind row.kind) k.job ∙ job_told row.kind row.job row.res k.d_job row.shape) in
    let res = ap (λ n. res_of_kind n e.res) k.kind ∙ (ap (res_of_kind row.kind) k.res ∙ res_told row.kind row.job row.res k.d_res row.shape) in
    let ahead = ap (λ n. ahead_of_kind n e.carries e.ahead) k.kind ∙ (ap (λ b. ahead_of_kind row.kind b e.ahead) k.carries ∙ (ap (ahead_of_kind row.kind (is_some row.ahead)) k.ahead ∙ ahead_told row.kind row.ahead k.d_ahead row.carrier)) in
    sym (shown row.core.0 row.tick e row place refl refl (sym k.kind) (sym job) (sym res) (sym ahead) (sym k.at))

-- ---- a log
pub from_length : (core tick : ℕ) (kept : List Kept) → length (turns_from core tick kept) ≡ length kept
from_length core tick [] = refl
from_length core tick (e ∷ kept) = ap suc (from_length core (suc tick) kept)

pub from_push : (core tick : ℕ) (kept : List Kept) (e : Kept) → turns_from core tick (kept ++ e ∷ []) ≡ turns_from core tick kept ++ turn_of core (tick + length kept) e ∷ []
from_push core tick [] e = ap (λ t. turn_of core t e ∷ []) (let z : tick ≡ tick + 0 = omega arith in z)
from_push core tick (x ∷ kept) e =
    let s : suc tick + length kept ≡ tick + suc (length kept) = omega arith in
    ap (λ l. turn_of core tick x ∷ l) (from_push core (suc tick) kept e ∙ ap (λ t. turns_from core (suc tick) kept ++ turn_of core t e ∷ []) s)

pub from_at : (core tick i : ℕ) (kept : List Kept) (d : Turn) (k : Kept) → i < length kept → get_or (turns_from core tick kept) i d ≡ turn_of core (tick + i) (get_or kept i k)
from_at core tick i [] d k l = absurd (omega (arith, l))
from_at core tick zero (e ∷ kept) d k l = ap (λ t. turn_of core t e) (let z : tick ≡ tick + 0 = omega arith in z)
from_at core tick (suc i) (e ∷ kept) d k l =
    let s : suc tick + i ≡ tick + suc i = omega arith in
    from_at core (suc tick) i kept d k (omega (arith, l)) ∙ ap (λ t. turn_of core t (get_or kept i k)) s
