-- A row in eight bytes stands for the row that it was made of; and the first rows of those that are
-- kept so and of the others.
use Rattle.std.proofs.Common.{◌≡◌, ◌+◌, ◌-◌, ◌∷◌, ◌++◌, ◌∙◌}
use Rattle.msrp_plan.proofs.Common.{ℕ, zero, suc, nat_le, List, [], length, map, min, take, ap, sym, arith, length-map, take-map, same_row}
use Rattle.std.proofs.lemmas.List.{take_min}
use Rattle.std.specs.Option.{unwrap_or}
use Rattle.msrp_plan.specs.Shape.{ahead_of_kind, job_of_kind, res_of_kind}
use Rattle.msrp_plan.specs.declared.ids.JobId.{JobId}
use Rattle.msrp_plan.specs.declared.ids.ResId.{ResId}
use Rattle.msrp_plan.specs.declared.rows.Row.{Row}
use Rattle.msrp_plan.proofs.KindParts.{job_told, res_told, same_parts}
use Rattle.msrp_audit.specs.declared.small_row.SmallRow.{SmallRow}
use Rattle.msrp_audit.specs.Inside.SmallRows.{job_in, kind_coded, res_in, row_of, rows_of}

-- ---- what a row's bytes stand for
pub record Holds (row : Row) (j : JobId) (g : ResId) (s : SmallRow) : Type 0 where
  pub tick : s.tick ≡ row.tick
  pub core : s.core ≡ row.core.0
  pub kind : kind_coded s.code ≡ row.kind
  pub task : s.task ≡ j.task.0
  pub k : s.k ≡ j.k
  pub res : s.res ≡ g.0
  pub ahead : ahead_of_kind row.kind (nat_le 9 s.code) (s.code - 9) ≡ row.ahead

job_is : (s : SmallRow) (j : JobId) → s.task ≡ j.task.0 → s.k ≡ j.k → job_in s ≡ j
job_is s j t k = ap (λ n. record { task = record { 0 = n }; k = s.k }) t ∙ ap (λ n. record { task = j.task; k = n }) k

res_is : (s : SmallRow) (g : ResId) → s.res ≡ g.0 → res_in s ≡ g
res_is s g n = ap (λ n. record { 0 = n }) n

pub row_again : (row : Row) (d_job : JobId) (d_res : ResId) (j : JobId) (g : ResId) (s : SmallRow) → j ≡ unwrap_or row.job d_job → g ≡ unwrap_or row.res d_res → Holds row j g s → row_of s ≡ row
row_again row d_job d_res j g s is_job is_res h =
    let job = ap (λ n. job_of_kind n (job_in s)) h.kind ∙ (ap (job_of_kind row.kind) (job_is s j h.task h.k ∙ is_job) ∙ job_told row.kind row.job row.res d_job row.shape) in
    let res = ap (λ n. res_of_kind n (res_in s)) h.kind ∙ (ap (res_of_kind row.kind) (res_is s g h.res ∙ is_res) ∙ res_told row.kind row.job row.res d_res row.shape) in
    let ahead = ap (λ n. ahead_of_kind n (nat_le 9 s.code) (s.code - 9)) h.kind ∙ h.ahead in
    same_row (row_of s) row (same_parts (row_of s) row h.tick (ap (λ n. record { 0 = n }) h.core) h.kind job res ahead)

-- ---- the first of the rows
take_both : {X : Type 0} (xs ys : List X) (n : ℕ) → take n (xs ++ ys) ≡ take n xs ++ take (n - length xs) ys
take_both xs ys zero =
    let none : 0 ≡ 0 - length xs = omega arith in
    ap (λ k. take k ys) none
take_both [] ys (suc n) =
    let all : suc n ≡ suc n - 0 = omega arith in
    ap (λ k. take k ys) all
take_both (x ∷ xs) ys (suc n) =
    let less : n - length xs ≡ suc n - suc (length xs) = omega arith in
    ap (λ l. x ∷ l) (take_both xs ys n ∙ ap (λ k. take n xs ++ take k ys) less)

pub rows_first : (small : List SmallRow) (others : List Row) (most n m : ℕ) → n ≡ min most (length small) → m ≡ min (most - n) (length others) → rows_of (take n small) (take m others) ≡ take most (rows_of small others)
rows_first small others most n m is_n is_m =
    let few = ap (λ k. take k small) is_n ∙ take_min most small in
    let left : most - n ≡ most - length small = omega (arith, is_n) in
    let more = ap (λ k. take k others) is_m ∙ (take_min (most - n) others ∙ ap (λ k. take k others) left) in
    let size = length-map small row_of in
    ap (λ l. rows_of l (take m others)) few ∙ (ap (rows_of (take most small)) more
    ∙ (ap (λ n. map row_of (take most small) ++ take (most - n) others) (sym size) ∙ (ap (λ l. l ++ take (most - length (map row_of small)) others) (sym (take-map row_of most small)) ∙ sym (take_both (map row_of small) others most))))
