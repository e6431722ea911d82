-- A row against the legal one of its core: it breaks the rules that the comparison names.
use Rattle.std.proofs.Common.{◌≡◌, ◌&&◌, ◌||◌, ◌==◌, ◌∙◌}
use Rattle.msrp_plan.proofs.Common.{ℕ, Bool, true, false, cond, not, List, Option, Some, None, is_some, length, refl, ap, sym, subst, eqb-true, list_any, option_or, true≢false, and-false, and_parts, not-true, PlanModel, has_shape, is_queue, may_carry, carries_its_ahead, is_queued, is_job, choice, same_res, is_global_unit, allows, is_idle, does_unit, does_next, fifo, replies, counts, is_first, is_reply_of, IsLegal, is_in_turn, is_of_core, is_chosen, is_next_action, is_fifo_reply, replies_on, same_choice, broken, same_kind_is, IsTurn, same_res_is, same_choice_is, due, legal_turn, legal_due, idle_res}
use Rattle.msrp_plan.specs.declared.ids.JobId.{JobId}
use Rattle.msrp_plan.specs.declared.ids.ResId.{ResId}
use Rattle.msrp_plan.specs.declared.faults.Rule.{Rule}
use Rattle.msrp_plan.specs.declared.faults.Rule.TheVariants.{A1, A2, A3, A4, A5}
use Rattle.msrp_plan.specs.declared.units.Op.{Op}
use Rattle.msrp_plan.specs.declared.rows.Kind.{Kind}
use Rattle.msrp_plan.specs.declared.rows.Kind.TheVariants.{Idle, Run, Lock, Unlock, Take, Queue, Spin, Grant, Release}
use Rattle.msrp_plan.specs.declared.rows.Row.{Row}
use Rattle.msrp_plan.specs.Kinds.{same_kind}
use Rattle.msrp_plan.specs.Queues.{is_free}
use Rattle.msrp_plan.specs.declared.units.Op.TheVariants.{Run as RunUnit, Lock as LockUnit, Unlock as UnlockUnit}
use Rattle.msrp_audit.specs.Foresight.{same_action, same_ahead, does_alike, replied_alike, unlike}

-- ---- A3
-- the job that is due is that of the core's turn
pub chosen_alike : (plan : PlanModel) (pre : List Row) (r s : Row) → IsTurn plan pre s → r.tick ≡ s.tick → r.core.0 ≡ s.core.0 → is_chosen plan pre r ≡ same_choice r.job s.job
chosen_alike plan pre r s turn tick core =
    ap (λ c. same_choice r.job (choice plan c r.tick pre)) core
    ∙ (ap (λ t. same_choice r.job (choice plan s.core.0 t pre)) tick ∙ ap (same_choice r.job) (sym turn.job))

-- ---- A4
-- a unit allows the kinds that are the same action as one that it allows
allows_alike : (global queued : Bool) (op : Op) (due k : Kind) → allows global queued op due ≡ true → allows global queued op k ≡ same_action k due
allows_alike true true RunUnit Run Run h = refl
allows_alike true true RunUnit Run _ h = refl
allows_alike true false RunUnit Run Run h = refl
allows_alike true false RunUnit Run _ h = refl
allows_alike false true RunUnit Run Run h = refl
allows_alike false true RunUnit Run _ h = refl
allows_alike false false RunUnit Run Run h = refl
allows_alike false false RunUnit Run _ h = refl
allows_alike false true (LockUnit g) Lock Lock h = refl
allows_alike false true (LockUnit g) Lock _ h = refl
allows_alike false false (LockUnit g) Lock Lock h = refl
allows_alike false false (LockUnit g) Lock _ h = refl
allows_alike false true (UnlockUnit g) Unlock Unlock h = refl
allows_alike false true (UnlockUnit g) Unlock _ h = refl
allows_alike false false (UnlockUnit g) Unlock Unlock h = refl
allows_alike false false (UnlockUnit g) Unlock _ h = refl
allows_alike true false (LockUnit g) Take Take h = refl
allows_alike true false (LockUnit g) Take Queue h = refl
allows_alike true false (LockUnit g) Take _ h = refl
allows_alike true false (LockUnit g) Queue Take h = refl
allows_alike true false (LockUnit g) Queue Queue h = refl
allows_alike true false (LockUnit g) Queue _ h = refl
allows_alike true true (LockUnit g) Grant Grant h = refl
allows_alike true true (LockUnit g) Grant Spin h = refl
allows_alike true true (LockUnit g) Grant _ h = refl
allows_alike true true (LockUnit g) Spin Grant h = refl
allows_alike true true (LockUnit g) Spin Spin h = refl
allows_alike true true (LockUnit g) Spin _ h = refl
allows_alike true true (UnlockUnit g) Release Release h = refl
allows_alike true true (UnlockUnit g) Release _ h = refl
allows_alike true false (UnlockUnit g) Release Release h = refl
allows_alike true false (UnlockUnit g) Release _ h = refl
allows_alike _ _ _ _ k h = absurd (cc)

-- idle rows have no resource, and do alike
idle_alike : (k : Kind) (job : Option JobId) (res : Option ResId) → has_shape k job res ≡ true → is_idle k ≡ (same_res res None && same_action k Idle)
idle_alike Idle None None h = refl
idle_alike Idle None (Some g) h = absurd (cc)
idle_alike Idle (Some j) res h = absurd (cc)
idle_alike _ job res h = sym (and-false (same_res res None))

-- what the job does next is what the core's turn does
action_by : (plan : PlanModel) (pre : List Row) (r s : Row) (o : Option JobId) → IsTurn plan pre s → r.job ≡ o → s.job ≡ o → does_next plan pre o r ≡ does_alike r s
action_by plan pre r s None turn jr js =
    let idle = turn.idle js in
    idle_alike r.kind r.job r.res r.shape
    ∙ (ap (λ g. same_res r.res g && same_action r.kind Idle) (sym (idle_res s idle))
    ∙ ap (λ k. same_res r.res s.res && same_action r.kind k) (sym idle))
action_by plan pre r s (Some x) turn jr js =
    let does = turn.does x js in
    ap (does_unit plan (is_queued pre x) r) does.unit
    ∙ (ap (λ g. same_res r.res g && allows (is_global_unit plan does.op) (is_queued pre x) does.op r.kind) (sym does.res)
    ∙ ap (λ b. same_res r.res s.res && b) (allows_alike (is_global_unit plan does.op) (is_queued pre x) does.op s.kind r.kind does.kind))

pub action_alike : (plan : PlanModel) (pre : List Row) (r s : Row) → IsTurn plan pre s → r.job ≡ s.job → is_next_action plan pre r ≡ does_alike r s
action_alike plan pre r s turn job = action_by plan pre r s r.job turn refl (sym job)

-- ---- A5
-- a kind that a queue answers to, and the other answer
replies_alike : (q : List JobId) (j : Option JobId) (k due : Kind) → same_action k due ≡ true → replies q j due ≡ true → replies q j k ≡ same_kind k due
replies_alike q j Take Take a h = h
replies_alike q j Queue Queue a h = h
replies_alike q j Grant Grant a h = h
replies_alike q j Spin Spin a h = h
replies_alike q j Take Queue a h = not-true (is_free q) h
replies_alike q j Queue Take a h = ap not h
replies_alike q j Grant Spin a h = not-true (is_first q j) ((and_parts (list_any (is_job j) q) (not (is_first q j)) h).1)
replies_alike q j Spin Grant a h = ap (λ b. list_any (is_job j) q && not b) h ∙ and-false (list_any (is_job j) q)
replies_alike q j Idle Idle a h = refl
replies_alike q j Run Run a h = refl
replies_alike q j Lock Lock a h = refl
replies_alike q j Unlock Unlock a h = refl
replies_alike q j Release Release a h = refl
replies_alike q j _ _ a h = absurd (cc)

-- the aheads of two rows of one kind, of which the one that is due carries its own
counts_alike : (q : List JobId) (k : Kind) (o due : Option ℕ) → may_carry k o ≡ true → (not (is_queue k) || is_some due) ≡ true → counts q due ≡ true → counts q o ≡ same_ahead o due
counts_alike q k None due m c h = refl
counts_alike q Queue (Some n) (Some d) m c h = ap (λ l. n == l) (sym (eqb-true d (length q) h))
counts_alike q Queue (Some n) None m c h = absurd (cc)
counts_alike q _ (Some n) due m c h = absurd (cc)

-- the reply of a queue
reply_by_queue : (q : List JobId) (r s : Row) (b : Bool) → same_kind r.kind s.kind ≡ b → r.job ≡ s.job → same_action r.kind s.kind ≡ true → replies q s.job s.kind ≡ true → counts q s.ahead ≡ true → carries_its_ahead s ≡ true → is_reply_of q r ≡ replied_alike r s
reply_by_queue q r s true e job a h n c =
    let kind : r.kind ≡ s.kind = same_kind_is r.kind s.kind e in
    let own : (not (is_queue r.kind) || is_some s.ahead) ≡ true = subst (λ k. (not (is_queue k) || is_some s.ahead) ≡ true) (sym kind) c in
    ap (λ b. b && counts q r.ahead) (ap (λ j. replies q j r.kind) job ∙ replies_alike q s.job r.kind s.kind a h)
    ∙ ap (λ b. same_kind r.kind s.kind && b) (counts_alike q r.kind r.ahead s.ahead r.carrier own n)
reply_by_queue q r s false e job a h n c =
    ap (λ b. b && counts q r.ahead) (ap (λ j. replies q j r.kind) job ∙ (replies_alike q s.job r.kind s.kind a h ∙ e))
    ∙ ap (λ b. b && same_ahead r.ahead s.ahead) (sym e)

-- rows on no resource have no other answer
plain_kind : (k due : Kind) (job : Option JobId) (o : Option ℕ) → has_shape due job None ≡ true → may_carry k o ≡ true → same_action k due ≡ true → (b : Option ℕ) → true ≡ (same_kind k due && same_ahead o b)
plain_kind Idle Idle job None h m a b = refl
plain_kind Run Run job None h m a b = refl
plain_kind _ Idle job _ h m a b = absurd (cc)
plain_kind _ Run job _ h m a b = absurd (cc)
plain_kind k _ job o h m a b = absurd (true≢false (sym h ∙ and-false (is_some job)))

reply_by : (pre : List Row) (r s : Row) (o : Option ResId) → r.res ≡ o → s.res ≡ o → r.job ≡ s.job → same_action r.kind s.kind ≡ true → replies_on pre o s ≡ true → carries_its_ahead s ≡ true → replies_on pre o r ≡ replied_alike r s
reply_by pre r s None er es job a h c = plain_kind r.kind s.kind s.job r.ahead (subst (λ g. has_shape s.kind s.job g ≡ true) es s.shape) r.carrier a s.ahead
reply_by pre r s (Some g) er es job a h c =
    let both = and_parts (replies (fifo g.0 pre) s.job s.kind) (counts (fifo g.0 pre) s.ahead) h in
    reply_by_queue (fifo g.0 pre) r s (same_kind r.kind s.kind) refl job a both.0 both.1 c

reply_alike : (plan : PlanModel) (pre : List Row) (r s : Row) → IsLegal plan pre s → carries_its_ahead s ≡ true → r.job ≡ s.job → does_alike r s ≡ true → is_fifo_reply pre r ≡ replied_alike r s
reply_alike plan pre r s legal c job alike =
    let both = and_parts (same_res r.res s.res) (same_action r.kind s.kind) alike in
    let res : r.res ≡ s.res = same_res_is r.res s.res both.0 in
    reply_by pre r s r.res refl (sym res) job both.1 (subst (λ o. replies_on pre o s ≡ true) (sym res) legal.reply) c

-- ---- the lowest of them

by_action : (plan : PlanModel) (pre : List Row) (r s : Row) → IsLegal plan pre s → carries_its_ahead s ≡ true → r.job ≡ s.job → (b : Bool) → does_alike r s ≡ b
    → cond (is_next_action plan pre r) (cond (is_fifo_reply pre r) None (Some A5)) (Some A4) ≡ cond b (cond (replied_alike r s) None (Some A5)) (Some A4)
by_action plan pre r s legal c job true e = ap (λ b. cond b (cond (is_fifo_reply pre r) None (Some A5)) (Some A4)) (action_alike plan pre r s (legal_turn plan pre s legal) job ∙ e) ∙ ap (λ b. cond b None (Some A5)) (reply_alike plan pre r s legal c job e)
by_action plan pre r s legal c job false e = ap (λ b. cond b (cond (is_fifo_reply pre r) None (Some A5)) (Some A4)) (action_alike plan pre r s (legal_turn plan pre s legal) job ∙ e)

by_choice : (plan : PlanModel) (pre : List Row) (r s : Row) → IsLegal plan pre s → carries_its_ahead s ≡ true → is_in_turn plan pre r ≡ true → r.core.0 ≡ s.core.0 → (b : Bool) → same_choice r.job s.job ≡ b
    → cond (is_chosen plan pre r) (cond (is_next_action plan pre r) (cond (is_fifo_reply pre r) None (Some A5)) (Some A4)) (Some A3)
    ≡ cond b (cond (does_alike r s) (cond (replied_alike r s) None (Some A5)) (Some A4)) (Some A3)
by_choice plan pre r s legal c turn core true e =
    let tick : r.tick ≡ s.tick = (due plan pre r turn).tick ∙ sym (legal_due plan pre s legal).tick in
    ap (λ b. cond b (cond (is_next_action plan pre r) (cond (is_fifo_reply pre r) None (Some A5)) (Some A4)) (Some A3)) (chosen_alike plan pre r s (legal_turn plan pre s legal) tick core ∙ e)
    ∙ by_action plan pre r s legal c (same_choice_is r.job s.job e) (does_alike r s) refl
by_choice plan pre r s legal c turn core false e =
    let tick : r.tick ≡ s.tick = (due plan pre r turn).tick ∙ sym (legal_due plan pre s legal).tick in
    ap (λ b. cond b (cond (is_next_action plan pre r) (cond (is_fifo_reply pre r) None (Some A5)) (Some A4)) (Some A3)) (chosen_alike plan pre r s (legal_turn plan pre s legal) tick core ∙ e)

-- the reply counts where job and action are right
by_reply : (a b : Bool) (o : Option Rule) → cond a (cond b o (Some A4)) (Some A3) ≡ option_or (cond a (cond b None (Some A4)) (Some A3)) o
by_reply true true o = refl
by_reply true false o = refl
by_reply false b o = refl

-- a row that is in its turn, of a job of its core, breaks what it breaks against the legal row of
-- that core
pub broken_is : (plan : PlanModel) (pre : List Row) (r s : Row) → IsLegal plan pre s → carries_its_ahead s ≡ true → is_in_turn plan pre r ≡ true → is_of_core plan r ≡ true → r.core.0 ≡ s.core.0 → broken plan pre r ≡ unlike r s
broken_is plan pre r s legal c turn own core =
    ap (λ b. cond b (cond (is_of_core plan r) (cond (is_chosen plan pre r) (cond (is_next_action plan pre r) (cond (is_fifo_reply pre r) None (Some A5)) (Some A4)) (Some A3)) (Some A2)) (Some A1)) turn
    ∙ (ap (λ b. cond b (cond (is_chosen plan pre r) (cond (is_next_action plan pre r) (cond (is_fifo_reply pre r) None (Some A5)) (Some A4)) (Some A3)) (Some A2)) own
    ∙ (by_choice plan pre r s legal c turn core (same_choice r.job s.job) refl ∙ by_reply (same_choice r.job s.job) (does_alike r s) (cond (replied_alike r s) None (Some A5))))
