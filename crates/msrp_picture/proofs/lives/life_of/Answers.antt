-- The rows of a job among those of its task.
use Rattle.msrp_plan.proofs.Common.{fold, not, sym, eq-eqb, ne_eqb, ℕ, Bool, true, false, List, Option, Some, None, PlanModel, refl, ap, cond, nat_eq, length, all_of, filter_within, done, is_finished, is_job, is_row_of, is_waiting, release, task_of, units}
use Rattle.std.proofs.Common.{◌&&◌, ◌==◌, ◌+◌, ◌≡◌, ◌∙◌}
use Rattle.msrp_picture.proofs.Common.{JobId, Row, after_last, count_within, is_job_of, life_of, task_rows, ticks_begun}
use Rattle.msrp_picture.proofs.lives.life_of.Goals as goal

left : (a b : Bool) → a && b ≡ true → a ≡ true
left true b e = refl
left false b e = e

of-task : (j : JobId) (o : Option JobId) → is_job o j ≡ true → is_job_of j.task.0 o ≡ true
of-task j None e = absurd (cc)
of-task j (Some i) e = left (i.task.0 == j.task.0) (i.k == j.k) e

last-of-task : (j : JobId) (rows : List Row) → after_last j (task_rows j.task.0 rows) ≡ after_last j rows
last-of-task j rows = ap (λ (xs : List Row). fold (λ _ r. r.tick + 1) 0 xs) (filter_within (is_row_of j) (λ r. is_job_of j.task.0 r.job) rows (all_of (λ r. is_row_of j r ≡ true → is_job_of j.task.0 r.job ≡ true) (λ r e. of-task j r.job e) rows))

done-of-task : (j : JobId) (rows : List Row) → done j (task_rows j.task.0 rows) ≡ done j rows
done-of-task j rows =
    let p = λ (r : Row). is_row_of j r && not (is_waiting r.kind) in
    let own = λ (r : Row). is_job_of j.task.0 r.job in
    count_within p own rows (all_of (λ r. p r ≡ true → own r ≡ true) (λ r e. of-task j r.job (left (is_row_of j r) (not (is_waiting r.kind)) e)) rows)

-- a life by the rows of the job's task
life-is : (plan : PlanModel) (rows own : List Row) (j : JobId) (r d e : ℕ) (b : Bool) → own ≡ task_rows j.task.0 rows → r ≡ release plan j → d ≡ (task_of plan j).deadline → b ≡ nat_eq (done j own) (length (units plan j))
    → e ≡ cond b (after_last j own) (ticks_begun plan rows) → record { job = j; release = r; deadline = r + d; end = e; is_finished = b } ≡ life_of plan rows j
life-is plan rows own j r d e b task released due done_is ends =
    let finished : b ≡ is_finished plan rows j = done_is ∙ ap (λ n. nat_eq n (length (units plan j))) (ap (done j) task ∙ done-of-task j rows) in
    let end = ends ∙ ap (λ n. cond b n (ticks_begun plan rows)) (ap (after_last j) task ∙ last-of-task j rows) ∙ ap (λ c. cond c (after_last j rows) (ticks_begun plan rows)) finished in
    cc

pub returns-then-is_finished : goal.returns-then-is_finished
returns-then-is_finished c =
    let done_is = ap (λ n. nat_eq n c.units.result) c.done.ensures ∙ ap (nat_eq (done c.args.job c.args.own.now)) c.units.ensures in
    let end = c.after_last.ensures ∙ ap (λ b. cond b (after_last c.args.job c.args.own.now) (ticks_begun c.args.scene.now.plan.now c.args.scene.now.rows.now)) (sym (eq-eqb c.done.result c.units.result c.if-is_finished.true)) in
    life-is c.args.scene.now.plan.now c.args.scene.now.rows.now c.args.own.now c.args.job _ _ _ _ c.requires.rows c.release-release.ensures.value c.deadline.ensures done_is end

pub returns-else-is_finished : goal.returns-else-is_finished
returns-else-is_finished c =
    let done_is = ap (λ n. nat_eq n c.units.result) c.done.ensures ∙ ap (nat_eq (done c.args.job c.args.own.now)) c.units.ensures in
    let end = c.ticks_begun.ensures ∙ ap (λ b. cond b (after_last c.args.job c.args.own.now) (ticks_begun c.args.scene.now.plan.now c.args.scene.now.rows.now)) (sym (ne_eqb c.done.result c.units.result c.if-is_finished.false)) in
    life-is c.args.scene.now.plan.now c.args.scene.now.rows.now c.args.own.now c.args.job _ _ _ _ c.requires.rows c.release-release.ensures.value c.deadline.ensures done_is end
