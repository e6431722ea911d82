-- Determinacy: after the same rows one row of a core is legal, so that the order of the cores fixes
-- a run.
use Rattle.msrp_plan.specs.Common.{ℕ, Bool, true, false, cond, not, List, [], map, length, Option, Some, None, is_some, list_any, AllByRecursion, PlanModel, has_shape, may_carry, is_queue, carries_its_ahead, carries_ahead, without_ahead, is_queued, is_job, choice, allows, is_global_unit, res_of_unit, replies, counts, is_free, is_first, fifo, IsLegal, IsRun, IsRunStart, EachAfter, core_order}
use Rattle.msrp_plan.specs.declared.ids.JobId.{JobId}
use Rattle.msrp_plan.specs.declared.ids.CoreId.{CoreId}
use Rattle.msrp_plan.specs.declared.ids.ResId.{ResId}
use Rattle.msrp_plan.specs.declared.units.Op.{Op}
use Rattle.msrp_plan.specs.declared.rows.Kind.{Kind}
use Rattle.msrp_plan.specs.declared.rows.Kind.TheVariants.{Run, Lock, Unlock, Take, Queue, Spin, Grant, Release}
use Rattle.msrp_plan.specs.declared.rows.Row.{Row}
use Rattle.std.proofs.Common.{◌≡◌, ◌||◌, ◌∷◌, ◌++◌, refl, ap, sym, ◌∙◌, subst}
use Rattle.std.proofs.lemmas.Bool.{and_parts, not-true, eqb-true}
use Rattle.std.proofs.lemmas.Simd.{map-map}
use Rattle.msrp_plan.specs.declared.units.Op.TheVariants.{Run as RunUnit, Lock as LockUnit, Unlock as UnlockUnit}
use Rattle.msrp_plan.proofs.Legality.LegalRows.{legal_turn, legal_due, legal_reply, legal_count, idle_res}
use Rattle.msrp_plan.proofs.Legality.SameRow.{parts, same_row}
use Rattle.msrp_plan.proofs.Legality.Aheads.{bare, each_bare}

-- the one kind that a unit allows under these replies
abbrev kind_of : Bool → Bool → Bool → Bool → Op → Kind
kind_of global queued free first RunUnit = Run
kind_of true true free first (LockUnit h) = cond first Grant Spin
kind_of true false free first (LockUnit h) = cond free Take Queue
kind_of false queued free first (LockUnit h) = Lock
kind_of true queued free first (UnlockUnit h) = Release
kind_of false queued free first (UnlockUnit h) = Unlock

-- by the unit and the kind
kind_is : (global queued : Bool) (op : Op) (kind : Kind) (q : List JobId) (j : Option JobId) → allows global queued op kind ≡ true → replies q j kind ≡ true → kind ≡ kind_of global queued (is_free q) (is_first q j) op
kind_is global queued RunUnit Run q j e a = refl
kind_is false queued (LockUnit h) Lock q j e a = refl
kind_is false queued (UnlockUnit h) Unlock q j e a = refl
kind_is true false (LockUnit h) Take q j e a = sym (ap (λ b. cond b Take Queue) a)
kind_is true false (LockUnit h) Queue q j e a = sym (ap (λ b. cond b Take Queue) (not-true (is_free q) a))
kind_is true true (LockUnit h) Grant q j e a = sym (ap (λ b. cond b Grant Spin) a)
kind_is true true (LockUnit h) Spin q j e a = let k = and_parts (list_any (is_job j) q) (not (is_first q j)) a in sym (ap (λ b. cond b Grant Spin) (not-true (is_first q j) k.1))
kind_is true queued (UnlockUnit h) Release q j e a = refl
kind_is _ _ _ _ q j e a = absurd (cc)

-- a unit of work allows one kind whatever the queue
run_is : (global queued : Bool) (kind : Kind) → allows global queued RunUnit kind ≡ true → kind ≡ Run
run_is global queued Run e = refl
run_is _ _ _ e = absurd (cc)

-- the queue that a unit asks
abbrev queue_of : List Row → Op → List JobId
queue_of pre RunUnit = []
queue_of pre (LockUnit g) = fifo g.0 pre
queue_of pre (UnlockUnit g) = fifo g.0 pre

-- the kind of the row in which the job does the unit
abbrev kind_at : PlanModel → List Row → JobId → Op → Option JobId → Kind
kind_at plan pre x op j = kind_of (is_global_unit plan op) (is_queued pre x) (is_free (queue_of pre op)) (is_first (queue_of pre op) j) op

-- each legal row is of it
row_kind : (plan : PlanModel) (pre : List Row) (x : JobId) (op : Op) (r : Row) → IsLegal plan pre r → r.res ≡ res_of_unit op → allows (is_global_unit plan op) (is_queued pre x) op r.kind ≡ true → r.kind ≡ kind_at plan pre x op r.job
row_kind plan pre x RunUnit r h e a = run_is false (is_queued pre x) r.kind a
row_kind plan pre x (LockUnit g) r h e a = kind_is (is_global_unit plan (LockUnit g)) (is_queued pre x) (LockUnit g) r.kind (fifo g.0 pre) r.job a (legal_reply plan pre r g h e)
row_kind plan pre x (UnlockUnit g) r h e a = kind_is (is_global_unit plan (UnlockUnit g)) (is_queued pre x) (UnlockUnit g) r.kind (fifo g.0 pre) r.job a (legal_reply plan pre r g h e)

-- a place has one unit
same_unit : (a b : Op) → Some a ≡ Some b → a ≡ b
same_unit a b h = cc

-- what two legal rows of one job do is the same
same_actions : (plan : PlanModel) (pre : List Row) (r s : Row) (o : Option JobId) → r.job ≡ o → s.job ≡ o → IsLegal plan pre r → IsLegal plan pre s → (r.kind ≡ s.kind) × (r.res ≡ s.res)
same_actions plan pre r s None jr js h k =
    let er = (legal_turn plan pre r h).idle jr in
    let es = (legal_turn plan pre s k).idle js in
    (er ∙ sym es, idle_res r er ∙ sym (idle_res s es))
same_actions plan pre r s (Some x) jr js h k =
    let a = (legal_turn plan pre r h).does x jr in
    let b = (legal_turn plan pre s k).does x js in
    let e : a.op ≡ b.op = same_unit a.op b.op (sym a.unit ∙ b.unit) in
    let kr = row_kind plan pre x a.op r h a.res a.kind in
    let ks = row_kind plan pre x b.op s k b.res b.kind in
    (kr ∙ (ap (kind_at plan pre x a.op) (jr ∙ sym js) ∙ (ap (λ op. kind_at plan pre x op s.job) e ∙ sym ks)), a.res ∙ (ap res_of_unit e ∙ sym b.res))

-- a core by its number
abbrev core_at : ℕ → CoreId
core_at n = record { 0 = n }

-- ---- the ahead
-- a row on no resource carries none
none_off : (kind : Kind) (job : Option JobId) (res : Option ResId) (o : Option ℕ) → has_shape kind job res ≡ true → may_carry kind o ≡ true → res ≡ None → o ≡ None
none_off kind job res None h m e = refl
none_off Queue job None (Some n) h m e = let both = and_parts (is_some job) false h in absurd (cc)
none_off Queue job (Some g) (Some n) h m e = absurd (cc)
none_off _ job res (Some n) h m e = absurd (cc)

-- two that a queue counts, or that are not there, are equal
same_count : (q : List JobId) (o p : Option ℕ) → counts q o ≡ true → counts q p ≡ true → is_some o ≡ is_some p → o ≡ p
same_count q None None a b e = refl
same_count q None (Some n) a b e = absurd (cc)
same_count q (Some n) None a b e = absurd (cc)
same_count q (Some n) (Some m) a b e = ap (λ k. Some k) (eqb-true n (length q) a ∙ sym (eqb-true m (length q) b))

-- two legal rows on one resource, or on none, that both carry an ahead or both none, carry the same
same_ahead : (plan : PlanModel) (pre : List Row) (r s : Row) (o : Option ResId) → r.res ≡ o → s.res ≡ o → is_some r.ahead ≡ is_some s.ahead → IsLegal plan pre r → IsLegal plan pre s → r.ahead ≡ s.ahead
same_ahead plan pre r s None er es e h k = none_off r.kind r.job r.res r.ahead r.shape r.carrier er ∙ sym (none_off s.kind s.job s.res s.ahead s.shape s.carrier es)
same_ahead plan pre r s (Some g) er es e h k = same_count (fifo g.0 pre) r.ahead s.ahead (legal_count plan pre r g h er) (legal_count plan pre s g k es) e

-- ---- rows
-- rows that agree in each part
joined : (r s : Row) → r.tick ≡ s.tick → r.core ≡ s.core → r.kind ≡ s.kind → r.job ≡ s.job → r.res ≡ s.res → r.ahead ≡ s.ahead → parts r ≡ parts s
joined r s t c k j g a = cc

-- whether a row carries an ahead is told by its kind, in one way or another
abbrev CarriesBy : (Kind → Bool) → Row → Type 0
CarriesBy f r = is_some r.ahead ≡ f r.kind

-- one row of a core is legal after these rows, among rows that carry aheads in one way
pub same_step : (plan : PlanModel) (f : Kind → Bool) (pre : List Row) (r s : Row) → r.core.0 ≡ s.core.0 → CarriesBy f r → CarriesBy f s → IsLegal plan pre r → IsLegal plan pre s → r ≡ s
same_step plan f pre r s c fr fs h k =
    let tick : r.tick ≡ s.tick = (legal_due plan pre r h).tick ∙ sym (legal_due plan pre s k).tick in
    let job : r.job ≡ s.job = (legal_turn plan pre r h).job ∙ (ap (λ n. choice plan n r.tick pre) c ∙ (ap (λ t. choice plan s.core.0 t pre) tick ∙ sym (legal_turn plan pre s k).job)) in
    let rest = same_actions plan pre r s r.job refl (sym job) h k in
    let ahead = same_ahead plan pre r s r.res refl (sym rest.1) (fr ∙ (ap f rest.0 ∙ sym fs)) h k in
    same_row r s (joined r s tick (ap core_at c) rest.0 job rest.1 ahead)

-- equal lists begin alike and go on alike
heads : (a b : ℕ) (xs ys : List ℕ) → a ∷ xs ≡ b ∷ ys → (a ≡ b) × (xs ≡ ys)
heads a b xs ys h = (cc, cc)

-- an empty list equals no longer one
no_cons : (a : ℕ) (xs : List ℕ) → [] ≡ a ∷ xs → ⊥
no_cons a xs h = cc

-- row by row
same_from : (plan : PlanModel) (f : Kind → Bool) (pre xs ys : List Row) → AllByRecursion (CarriesBy f) xs → AllByRecursion (CarriesBy f) ys → EachAfter (IsLegal plan) pre xs → EachAfter (IsLegal plan) pre ys → core_order xs ≡ core_order ys → xs ≡ ys
same_from plan f pre [] [] fx fy h k e = refl
same_from plan f pre [] (y ∷ ys) fx fy h k e = absurd (no_cons y.core.0 (core_order ys) e)
same_from plan f pre (x ∷ xs) [] fx fy h k e = absurd (no_cons x.core.0 (core_order xs) (sym e))
same_from plan f pre (x ∷ xs) (y ∷ ys) fx fy h k e =
    let both = heads x.core.0 y.core.0 (core_order xs) (core_order ys) e in
    let s : x ≡ y = same_step plan f pre x y both.0 fx.0 fy.0 h.0 k.0 in
    let rest = same_from plan f (pre ++ x ∷ []) xs ys fx.1 fy.1 h.1 (subst (λ z. EachAfter (IsLegal plan) (pre ++ z ∷ []) ys) (sym s) k.1) both.1 in
    ap (λ z. z ∷ xs) s ∙ ap (λ zs. y ∷ zs) rest

-- ---- without aheads
-- no row carries one
bare_none : (rows : List Row) → AllByRecursion (CarriesBy (λ _. false)) (bare rows)
bare_none [] = tt
bare_none (r ∷ rows) = (refl, bare_none rows)

-- the cores have their turns in the same order
bare_order : (rows : List Row) → core_order (bare rows) ≡ core_order rows
bare_order rows = map-map (λ r. r.core.0) without_ahead rows

bare_same : (plan : PlanModel) (xs ys : List Row) → EachAfter (IsLegal plan) [] xs → EachAfter (IsLegal plan) [] ys → core_order xs ≡ core_order ys → bare xs ≡ bare ys
bare_same plan xs ys h k e = same_from plan (λ _. false) [] (bare xs) (bare ys) (bare_none xs) (bare_none ys) (each_bare plan [] xs h) (each_bare plan [] ys k) (bare_order xs ∙ (e ∙ sym (bare_order ys)))

-- ---- with every ahead
-- a row that carries its own, if it is a queue row, carries one exactly where it is
carried : (kind : Kind) (o : Option ℕ) → may_carry kind o ≡ true → (not (is_queue kind) || is_some o) ≡ true → is_some o ≡ is_queue kind
carried kind (Some n) m h = sym m
carried kind None m h = by_kind (is_queue kind) h
  where
    by_kind : (b : Bool) → (not b || false) ≡ true → false ≡ b
    by_kind true h = h
    by_kind false h = refl

carried_all : (rows : List Row) → carries_ahead rows ≡ true → AllByRecursion (CarriesBy is_queue) rows
carried_all [] h = tt
carried_all (r ∷ rows) h =
    let both = and_parts (carries_its_ahead r) (carries_ahead rows) h in
    (carried r.kind r.ahead r.carrier both.0, carried_all rows both.1)

carrying_same : (plan : PlanModel) (xs ys : List Row) → carries_ahead xs ≡ true → carries_ahead ys ≡ true → EachAfter (IsLegal plan) [] xs → EachAfter (IsLegal plan) [] ys → core_order xs ≡ core_order ys → xs ≡ ys
carrying_same plan xs ys cx cy h k e = same_from plan is_queue [] xs ys (carried_all xs cx) (carried_all ys cy) h k e

-- ---- the law
-- starts of legal runs with the same cores in the same order are equal, aheads left out
pub same_starts : (plan : PlanModel) (xs ys : List Row) → IsRunStart plan xs → IsRunStart plan ys → core_order xs ≡ core_order ys → map without_ahead xs ≡ map without_ahead ys
same_starts plan xs ys h k e = bare_same plan xs ys h.each k.each e

-- and with them, where both carry all
pub same_carrying_starts : (plan : PlanModel) (xs ys : List Row) → IsRunStart plan xs → IsRunStart plan ys → core_order xs ≡ core_order ys → carries_ahead xs ≡ true → carries_ahead ys ≡ true → xs ≡ ys
same_carrying_starts plan xs ys h k e cx cy = carrying_same plan xs ys cx cy h.each k.each e

-- and so are legal runs
pub same_runs : (plan : PlanModel) (xs ys : List Row) → IsRun plan xs → IsRun plan ys → core_order xs ≡ core_order ys → map without_ahead xs ≡ map without_ahead ys
same_runs plan xs ys h k e = bare_same plan xs ys h.each k.each e

pub same_carrying_runs : (plan : PlanModel) (xs ys : List Row) → IsRun plan xs → IsRun plan ys → core_order xs ≡ core_order ys → carries_ahead xs ≡ true → carries_ahead ys ≡ true → xs ≡ ys
same_carrying_runs plan xs ys h k e cx cy = carrying_same plan xs ys cx cy h.each k.each e
