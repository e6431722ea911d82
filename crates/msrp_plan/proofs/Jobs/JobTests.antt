-- What the tests of jobs and of their rows say of which job it is.
use Rattle.msrp_plan.specs.Common.{true, Option, Some, None, same_job, is_job, is_row_of}
use Rattle.msrp_plan.specs.declared.ids.JobId.{JobId}
use Rattle.msrp_plan.specs.declared.rows.Row.{Row}
use Rattle.std.proofs.Common.{◌≡◌, ◌&&◌, ◌==◌, refl, ap, sym, ◌∙◌, arith, eq-eqb}

-- jobs that pass the test are one
pub same_is : (i j : JobId) → same_job i j ≡ true → i ≡ j
same_is i j h = grind arith

-- each job passes it with itself
pub same_self : (j : JobId) → same_job j j ≡ true
same_self j = ap (λ b. b && (j.k == j.k)) (eq-eqb j.task.0 j.task.0 refl) ∙ eq-eqb j.k j.k refl

-- it doesn't matter which job stands first
pub same_symm : (i j : JobId) → same_job i j ≡ same_job j i
same_symm i j = grind arith

-- jobs that pass it with each other pass it with the same jobs
pub same_congr : (i j k : JobId) → same_job i j ≡ true → same_job i k ≡ same_job j k
same_congr i j k h = ap (λ x. same_job x k) (same_is i j h)

-- two jobs of one option are one
pub some_is : (i j : JobId) → Some i ≡ Some j → i ≡ j
some_is i j h = cc

-- an option that passes the test for a job is that job
pub is_job_is : (o : Option JobId) (j : JobId) → is_job o j ≡ true → o ≡ Some j
is_job_is None j h = absurd (cc)
is_job_is (Some i) j h = ap (λ k. Some k) (same_is i j h)

-- a row that names the job is the job's row
pub row_of_job : (r : Row) (j : JobId) → r.job ≡ Some j → is_row_of j r ≡ true
row_of_job r j e = ap (λ o. is_job o j) e ∙ same_self j

-- a row is of one job
pub one_job : (r : Row) (i j : JobId) → r.job ≡ Some i → is_row_of j r ≡ true → j ≡ i
one_job r i j e h = some_is j i (sym (is_job_is r.job j h) ∙ e)
