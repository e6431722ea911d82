-- The earliest of the pieces' answers is the first fault of the rows.
use Rattle.msrp_plan.proofs.Common.{append_assoc, min, map, Ok, IfOk, Result, get_or, ℕ, zero, suc, nat_lt, Bool, true, false, cond, List, [], Option, Some, None, IfSome, fold, refl, ap, sym, subst, arith, length, length-append, take, drop, inl, inr, eq-eqb, eqb-true, option_or, AllByRecursion, range_with_len, true≢false, mul-le-mul_left, cases_Bool, cases_lt, cases_eq, lt-ltb, le-ltb, le-leb, div-add-mod', div_below, mod_below, take_at, get_or_at, take_all, take-append-drop, length-take-le, PlanModel, is_global, is_of, is_on, fifo, replies, counts, IsLegal, IsRunStart, EachAfter, is_in_turn, is_of_core, is_chosen, is_next_action, is_fifo_reply, replies_on, broken, refused, fault_or, fault_in, missing, verdict, IsPlan, due, turn_of, unbroken_is_legal, start_before, start_last, early_is, fault_stays, same_Some, undeclared_local}
use Rattle.std.proofs.Common.{◌⊎◌, ◌≡◌, ◌+◌, ◌-◌, ◌*◌, ◌/◌, ◌%◌, ◌<◌, ◌≤◌, ◌==◌, ◌&&◌, ◌∷◌, ◌++◌, ◌∙◌, MatchResult}
use Rattle.std.specs.List.{AllZip}
use Rattle.std.proofs.lemmas.List.{length-drop}
use Rattle.msrp_plan.specs.Faults.{IsBroken}
use Rattle.msrp_plan.specs.Verdict.{fault_from}
use Rattle.msrp_plan.specs.declared.ids.CoreId.{CoreId}
use Rattle.msrp_plan.specs.declared.ids.ResId.{ResId}
use Rattle.msrp_plan.specs.declared.faults.Fault.{Fault}
use Rattle.msrp_plan.specs.declared.faults.Rule.{Rule}
use Rattle.msrp_plan.specs.declared.faults.Rule.TheVariants.{A1, A2, A3, A4, A5, A6, A7}
use Rattle.msrp_plan.specs.declared.rows.Row.{Row}
use Rattle.msrp_plan.proofs.Runs.Verdicts.{legal_is_unbroken, early_fault, fault_append, fault_of}
use Rattle.msrp_audit.specs.Inside.Pieces.{parts, pieces_of, piece_with, part_size, is_in_part, broken_in, told_at, TellsFirst, rule_number, fault_order, earlier_of, earliest_of, length_fault_of}
use Rattle.msrp_audit.specs.declared.pieces.Piece.{Piece}
use Rattle.msrp_audit.specs.declared.pieces.Piece.TheVariants.{Turns, Core, Resource}
use Rattle.msrp_audit.proofs.Scanning.{split_length, start_at, IsSound}
use Rattle.msrp_sim.proofs.Turns.{local_turn, counts_plain, both_pass}

-- ---- a piece finds what a row breaks
-- the lowest rule, by the five tests
abbrev lowest : Bool → Bool → Bool → Bool → Bool → Option Rule
lowest a b c d e = cond a (cond b (cond c (cond d (cond e None (Some A5)) (Some A4)) (Some A3)) (Some A2)) (Some A1)

-- a rule that is broken, and none that is lower than it may be so
record Finds (o : Option Rule) (rule : Rule) : Type 0 where
  low : Rule
  is : o ≡ Some low
  below : rule_number low ≤ rule_number rule

same_number : (u v : Rule) → u ≡ v → rule_number u ≤ rule_number v
same_number u v e = subst (λ w. rule_number u ≤ rule_number w) e (omega arith)

finds_turn : (p a b c d e : Bool) (rule : Rule) → cond p (cond a None (Some A1)) None ≡ Some rule → Finds (lowest a b c d e) rule
finds_turn true false b c d e rule h = record { low = A1; is = refl; below = same_number A1 rule (cc) }
finds_turn true true b c d e rule h = absurd (cc)
finds_turn false a b c d e rule h = absurd (cc)

finds_action : (p a b c d e : Bool) (rule : Rule) → cond (p && a) (cond b (cond c (cond d None (Some A4)) (Some A3)) (Some A2)) None ≡ Some rule → Finds (lowest a b c d e) rule
finds_action true true false c d e rule h = record { low = A2; is = refl; below = same_number A2 rule (cc) }
finds_action true true true false d e rule h = record { low = A3; is = refl; below = same_number A3 rule (cc) }
finds_action true true true true false e rule h = record { low = A4; is = refl; below = same_number A4 rule (cc) }
finds_action true true true true true e rule h = absurd (cc)
finds_action true false b c d e rule h = absurd (cc)
finds_action false a b c d e rule h = absurd (cc)

five_is : (rule : Rule) → Some A5 ≡ Some rule → 5 ≤ rule_number rule
five_is rule h = same_number A5 rule (cc)

finds_reply : (p a b c d e : Bool) (rule : Rule) → cond p (cond e None (Some A5)) None ≡ Some rule → Finds (lowest a b c d e) rule
finds_reply false a b c d e rule h = absurd (cc)
finds_reply true a b c d true rule h = absurd (cc)
finds_reply true true true true true false rule h = let n = five_is rule h in record { low = A5; is = refl; below = n }
finds_reply true true true true false false rule h = let n = five_is rule h in record { low = A4; is = refl; below = omega (arith, n) }
finds_reply true true true false d false rule h = let n = five_is rule h in record { low = A3; is = refl; below = omega (arith, n) }
finds_reply true true false c d false rule h = let n = five_is rule h in record { low = A2; is = refl; below = omega (arith, n) }
finds_reply true false b c d false rule h = let n = five_is rule h in record { low = A1; is = refl; below = omega (arith, n) }

-- what a piece finds is broken, or a lower rule is
finds : (plan : PlanModel) (p : Piece) (pre : List Row) (r : Row) (rule : Rule) → broken_in plan p pre r ≡ Some rule → Finds (broken plan pre r) rule
finds plan (Turns part) pre r rule h = finds_turn (is_in_part plan part (length pre)) (is_in_turn plan pre r) (is_of_core plan r) (is_chosen plan pre r) (is_next_action plan pre r) (is_fifo_reply pre r) rule h
finds plan (Core c) pre r rule h = finds_action (is_of c.0 r) (is_in_turn plan pre r) (is_of_core plan r) (is_chosen plan pre r) (is_next_action plan pre r) (is_fifo_reply pre r) rule h
finds plan (Resource g) pre r rule h = finds_reply (is_global plan g.0 && is_on g.0 r.res) (is_in_turn plan pre r) (is_of_core plan r) (is_chosen plan pre r) (is_next_action plan pre r) (is_fifo_reply pre r) rule h

-- so it finds nothing in a legal row
sound_by : (plan : PlanModel) (p : Piece) (pre : List Row) (r : Row) → IsLegal plan pre r → (o : Option Rule) → broken_in plan p pre r ≡ o → o ≡ None
sound_by plan p pre r legal None e = refl
sound_by plan p pre r legal (Some rule) e = let f = finds plan p pre r rule e in let no : None ≡ Some f.low = sym (legal_is_unbroken plan pre r legal) ∙ f.is in absurd (cc)

pub sound : (plan : PlanModel) (p : Piece) → IsSound plan (broken_in plan p)
sound plan p pre r legal = sound_by plan p pre r legal (broken_in plan p pre r) refl

-- ---- and each rule that is broken is found by a piece
record IsFoundBy (plan : PlanModel) (pre : List Row) (r : Row) (rule : Rule) : Type 0 where
  number : ℕ
  known : number < pieces_of plan
  finds : broken_in plan (piece_with plan number) pre r ≡ Some rule

core_piece : (plan : PlanModel) (c : ℕ) → c < plan.cores → piece_with plan c ≡ Core (record { 0 = c })
core_piece plan c low = rw (lt-ltb c plan.cores low) refl

turns_piece : (plan : PlanModel) (part : ℕ) → part < parts plan → piece_with plan (plan.cores + part) ≡ Turns part
turns_piece plan part low =
    let n : plan.cores + part - plan.cores ≡ part = omega arith in
    rw (le-ltb (plan.cores + part) plan.cores (omega arith), n, lt-ltb part (parts plan) low) refl

resource_piece : (plan : PlanModel) (g : ℕ) → piece_with plan (plan.cores + parts plan + g) ≡ Resource (record { 0 = g })
resource_piece plan g =
    let n : plan.cores + parts plan + g - plan.cores ≡ parts plan + g = omega arith in
    let k : parts plan + g - parts plan ≡ g = omega arith in
    rw (le-ltb (plan.cores + parts plan + g) plan.cores (omega arith), n, le-ltb (parts plan + g) (parts plan) (omega arith), k) refl

-- a piece of a core or a resource is of one of the plan's
turns_at : (plan : PlanModel) (n : ℕ) → plan.cores ≤ n → n - plan.cores < parts plan → piece_with plan n ≡ Turns (n - plan.cores)
turns_at plan n high low = rw (le-ltb n plan.cores high, lt-ltb (n - plan.cores) (parts plan) low) refl

resource_at : (plan : PlanModel) (n : ℕ) → plan.cores ≤ n → parts plan ≤ n - plan.cores → piece_with plan n ≡ Resource (record { 0 = n - plan.cores - parts plan })
resource_at plan n high past = rw (le-ltb n plan.cores high, le-ltb (n - plan.cores) (parts plan) past) refl

pub core_known : (plan : PlanModel) (n : ℕ) (c : CoreId) → piece_with plan n ≡ Core c → c.0 < plan.cores
core_known plan n c e = elim (cases_lt n plan.cores) [
  | inl low ↦ let same : Core (record { 0 = n }) ≡ Core c = sym (core_piece plan n low) ∙ e in let is : n ≡ c.0 = cc in omega (arith, is, low)
  | inr high ↦ elim (cases_lt (n - plan.cores) (parts plan)) [
    | inl low ↦ let no : Turns (n - plan.cores) ≡ Core c = sym (turns_at plan n high low) ∙ e in absurd (cc)
    | inr past ↦ let no : Resource (record { 0 = n - plan.cores - parts plan }) ≡ Core c = sym (resource_at plan n high past) ∙ e in absurd (cc)
  ]
]

pub resource_known : (plan : PlanModel) (n : ℕ) (g : ResId) → n < pieces_of plan → piece_with plan n ≡ Resource g → g.0 < length plan.resources
resource_known plan n g few e = elim (cases_lt n plan.cores) [
  | inl low ↦ let no : Core (record { 0 = n }) ≡ Resource g = sym (core_piece plan n low) ∙ e in absurd (cc)
  | inr high ↦ elim (cases_lt (n - plan.cores) (parts plan)) [
    | inl low ↦ let no : Turns (n - plan.cores) ≡ Resource g = sym (turns_at plan n high low) ∙ e in absurd (cc)
    | inr past ↦
        let same : Resource (record { 0 = n - plan.cores - parts plan }) ≡ Resource g = sym (resource_at plan n high past) ∙ e in
        let is : n - plan.cores - parts plan ≡ g.0 = cc in
        omega (arith, is, high, past, few)
  ]
]

-- a row that is due stands in a part of the ticks
part_of : (plan : PlanModel) (n : ℕ) → 0 < plan.cores → n < plan.cores * plan.ticks → (part : ℕ) × (part < parts plan) × (is_in_part plan part n ≡ true)
part_of plan n some low =
    let size = part_size plan in
    let q = n / size in
    let whole : q * size + n % size ≡ n = div-add-mod' n size in
    let big : 1250 * 1 ≤ 1250 * plan.cores = mul-le-mul_left 1250 some in
    let rest : n % size < size = mod_below n size (omega (arith, big)) in
    let enough : plan.ticks ≤ 1250 * parts plan = omega arith in
    let all : plan.cores * plan.ticks ≤ plan.cores * (1250 * parts plan) = mul-le-mul_left plan.cores enough in
    let turned : plan.cores * (1250 * parts plan) ≡ parts plan * (plan.cores * 1250) = grind arith in
    let first : q < parts plan = div_below n size (parts plan) (omega (arith, big)) (omega (arith, low, all, turned)) in
    (q, first, ap (λ b. b && nat_lt n (q * size + size)) (le-leb (q * size) n (omega (arith, whole))) ∙ lt-ltb n (q * size + size) (omega (arith, whole, rest)))

by_tests : (plan : PlanModel) (pre : List Row) (r : Row) (rule : Rule) → IsPlan plan → length pre < plan.cores * plan.ticks → (a b c d e : Bool) → is_in_turn plan pre r ≡ a → is_of_core plan r ≡ b → is_chosen plan pre r ≡ c → is_next_action plan pre r ≡ d → is_fifo_reply pre r ≡ e
    → lowest a b c d e ≡ Some rule → IsFoundBy plan pre r rule
by_tests plan pre r rule ok left false b c d e ea eb ec ed ee h =
    let part = part_of plan (length pre) ok.draft.cores.0 left in
    record {
      number = plan.cores + part.0;
      known = let l = part.1 in omega (arith, l);
      finds = ap (λ p. broken_in plan p pre r) (turns_piece plan part.0 part.1) ∙ rw (part.2, ea) h;
    }
by_tests plan pre r rule ok left true false c d e ea eb ec ed ee h =
    let low = (due plan pre r ea).core in
    record { number = r.core.0; known = omega (arith, low); finds = ap (λ p. broken_in plan p pre r) (core_piece plan r.core.0 low) ∙ rw (eq-eqb r.core.0 r.core.0 refl, ea, eb) h }
by_tests plan pre r rule ok left true true false d e ea eb ec ed ee h =
    let low = (due plan pre r ea).core in
    record { number = r.core.0; known = omega (arith, low); finds = ap (λ p. broken_in plan p pre r) (core_piece plan r.core.0 low) ∙ rw (eq-eqb r.core.0 r.core.0 refl, ea, eb, ec) h }
by_tests plan pre r rule ok left true true true false e ea eb ec ed ee h =
    let low = (due plan pre r ea).core in
    record { number = r.core.0; known = omega (arith, low); finds = ap (λ p. broken_in plan p pre r) (core_piece plan r.core.0 low) ∙ rw (eq-eqb r.core.0 r.core.0 refl, ea, eb, ec, ed) h }
by_tests plan pre r rule ok left true true true true true ea eb ec ed ee h = absurd (cc)
by_tests plan pre r rule ok left true true true true false ea eb ec ed ee h = by_res r.res refl
  where
    by_res : (o : Option ResId) → r.res ≡ o → IsFoundBy plan pre r rule
    by_res None e = absurd (true≢false (sym (ap (λ o. replies_on pre o r) e) ∙ ee))
    by_res (Some g) e = elim (cases_Bool (is_global plan g.0)) [
      | inl glob ↦
          let low : g.0 < length plan.resources = elim (cases_lt g.0 (length plan.resources)) [ inl l ↦ l | inr past ↦ absurd (true≢false (sym glob ∙ undeclared_local plan g.0 ok.draft past)) ] in
          record {
            number = plan.cores + parts plan + g.0;
            known = omega (arith, low);
            finds = ap (λ p. broken_in plan p pre r) (resource_piece plan g.0) ∙ rw (glob, ap (is_on g.0) e ∙ eq-eqb g.0 g.0 refl, ee) h;
          }
      | inr loc ↦
          let local = local_turn plan pre r g r.job refl (turn_of plan pre r eb ec ed) e loc (fifo g.0 pre) in
          absurd (true≢false (sym (ap (λ o. replies_on pre o r) e ∙ both_pass (replies (fifo g.0 pre) r.job r.kind) (counts (fifo g.0 pre) r.ahead) local.0 (counts_plain (fifo g.0 pre) r local.1)) ∙ ee))
    ]

found : (plan : PlanModel) (pre : List Row) (r : Row) (rule : Rule) → IsPlan plan → length pre < plan.cores * plan.ticks → broken plan pre r ≡ Some rule → IsFoundBy plan pre r rule
found plan pre r rule ok left h = by_tests plan pre r rule ok left (is_in_turn plan pre r) (is_of_core plan r) (is_chosen plan pre r) (is_next_action plan pre r) (is_fifo_reply pre r) refl refl refl refl refl h

-- ---- the order of faults
few_rules : (u : Rule) → rule_number u ≤ 7
few_rules A1 = omega arith
few_rules A2 = omega arith
few_rules A3 = omega arith
few_rules A4 = omega arith
few_rules A5 = omega arith
few_rules A6 = omega arith
few_rules A7 = omega arith

abbrev rule_of : ℕ → Rule
rule_of (suc zero) = A1
rule_of (suc (suc zero)) = A2
rule_of (suc (suc (suc zero))) = A3
rule_of (suc (suc (suc (suc zero)))) = A4
rule_of (suc (suc (suc (suc (suc zero))))) = A5
rule_of (suc (suc (suc (suc (suc (suc zero)))))) = A6
rule_of _ = A7

rule_back : (u : Rule) → rule_of (rule_number u) ≡ u
rule_back A1 = refl
rule_back A2 = refl
rule_back A3 = refl
rule_back A4 = refl
rule_back A5 = refl
rule_back A6 = refl
rule_back A7 = refl

same_order : (f g : Fault) → fault_order f ≡ fault_order g → Some f ≡ Some g
same_order f g e =
    let a = few_rules f.rule in
    let b = few_rules g.rule in
    let row : f.row ≡ g.row = omega (arith, e, a, b) in
    let number : rule_number f.rule ≡ rule_number g.rule = omega (arith, e, a, b) in
    fault_of f g row (sym (rule_back f.rule) ∙ (ap rule_of number ∙ rule_back g.rule))

-- no fault before this one
abbrev AtLeast : Fault → Option Fault → Type 0
AtLeast f o = IfSome o (λ g. fault_order f ≤ fault_order g)

-- the list has it
abbrev HasFault : Fault → List (Option Fault) → Type 0
HasFault f [] = ⊥
HasFault f (o ∷ os) = (o ≡ Some f) ⊎ HasFault f os

stays : (f : Fault) (o : Option Fault) → AtLeast f o → earlier_of (Some f) o ≡ Some f
stays f None h = refl
stays f (Some g) h = ap (λ b. cond b (Some g) (Some f)) (le-ltb (fault_order g) (fault_order f) h)

comes : (f : Fault) (acc : Option Fault) → AtLeast f acc → earlier_of acc (Some f) ≡ Some f
comes f None h = refl
comes f (Some g) h = elim (cases_lt (fault_order f) (fault_order g)) [
  | inl low ↦ ap (λ b. cond b (Some f) (Some g)) (lt-ltb (fault_order f) (fault_order g) low)
  | inr high ↦ ap (λ b. cond b (Some f) (Some g)) (le-ltb (fault_order f) (fault_order g) high) ∙ same_order g f (omega (arith, h, high))
]

kept_by : (f g k : Fault) (b : Bool) → fault_order f ≤ fault_order g → fault_order f ≤ fault_order k → AtLeast f (cond b (Some k) (Some g))
kept_by f g k true h l = l
kept_by f g k false h l = h

kept : (f : Fault) (acc o : Option Fault) → AtLeast f acc → AtLeast f o → AtLeast f (earlier_of acc o)
kept f None o h l = l
kept f (Some g) None h l = h
kept f (Some g) (Some k) h l = kept_by f g k (nat_lt (fault_order k) (fault_order g)) h l

-- of a list without an earlier fault, the earliest is this one
least : (f : Fault) (acc : Option Fault) (os : List (Option Fault)) → AtLeast f acc → AllByRecursion (AtLeast f) os → (acc ≡ Some f) ⊎ HasFault f os → fold earlier_of acc os ≡ Some f
least f acc [] h all (inl e) = e
least f acc [] h all (inr none) = absurd none
least f acc (o ∷ os) h all (inl e) = least f (earlier_of acc o) os (kept f acc o h all.0) all.1 (inl (ap (λ a. earlier_of a o) e ∙ stays f o all.0))
least f acc (o ∷ os) h all (inr (inl e)) = least f (earlier_of acc o) os (kept f acc o h all.0) all.1 (inl (ap (earlier_of acc) e ∙ comes f acc h))
least f acc (o ∷ os) h all (inr (inr more)) = least f (earlier_of acc o) os (kept f acc o h all.0) all.1 (inr more)

none_earliest : (os : List (Option Fault)) → AllByRecursion (λ o. o ≡ None) os → fold earlier_of None os ≡ None
none_earliest [] all = refl
none_earliest (o ∷ os) all = ap (λ a. fold earlier_of a os) all.0 ∙ none_earliest os all.1

-- ---- the rows up to one of them
record Split (rows : List Row) (n : ℕ) : Type 0 where
  pre : List Row
  at : Row
  post : List Row
  is : rows ≡ pre ++ at ∷ post
  size : length pre ≡ n

split_at : (rows : List Row) (n : ℕ) → n < length rows → Split rows n
split_at [] n h = absurd (omega (arith, h))
split_at (x ∷ xs) zero h = record { pre = []; at = x; post = xs; is = refl; size = refl }
split_at (x ∷ xs) (suc n) h =
    let s = split_at xs n (omega (arith, h)) in
    record { pre = x ∷ s.pre; at = s.at; post = s.post; is = ap (λ l. x ∷ l) s.is; size = ap suc s.size }

-- rows without a fault are the start of a legal run
parts_none : (o : Option Rule) (n : ℕ) (later : Option Fault) → fault_or o n later ≡ None → (o ≡ None) × (later ≡ None)
parts_none None n later h = (refl, h)
parts_none (Some rule) n later h = absurd (cc)

no_fault : (plan : PlanModel) (pre rows : List Row) → length (pre ++ rows) ≤ plan.cores * plan.ticks → fault_from plan pre rows ≡ None → EachAfter (IsLegal plan) pre rows
no_fault plan pre [] within h = tt
no_fault plan pre (r ∷ rows) within h =
    let size = length-append pre (r ∷ rows) in
    let left : nat_lt (length pre) (plan.cores * plan.ticks) ≡ true = lt-ltb (length pre) (plan.cores * plan.ticks) (omega (arith, size, within)) in
    let now = parts_none (refused plan pre r) (length pre + 1) (fault_from plan (pre ++ r ∷ []) rows) h in
    let fits : length ((pre ++ r ∷ []) ++ rows) ≤ plan.cores * plan.ticks = subst (λ (l : List Row). length l ≤ plan.cores * plan.ticks) (sym (append_assoc pre (r ∷ []) rows)) within in
    (unbroken_is_legal plan pre r (sym (ap (λ b. cond b (broken plan pre r) (Some A7)) left) ∙ now.0), no_fault plan (pre ++ r ∷ []) rows fits now.1)

-- ---- the answers
told_own : (f : Fault) (n : ℕ) → f.row ≡ n → told_at n (Some f) ≡ Some f.rule
told_own f n e = ap (λ b. cond b (Some f.rule) None) (eq-eqb f.row n e)

told_is : (n : ℕ) (o : Option Fault) (rule : Rule) → told_at n o ≡ Some rule → (f : Fault) → f.row ≡ n → f.rule ≡ rule → o ≡ Some f
told_is n None rule h f row is = absurd (cc)
told_is n (Some g) rule h f row is = by_row (g.row == n) refl
  where
    by_row : (b : Bool) → (g.row == n) ≡ b → Some g ≡ Some f
    by_row true e =
        let named : Some g.rule ≡ Some rule = sym (ap (λ b. cond b (Some g.rule) None) e) ∙ h in
        fault_of g f (eqb-true g.row n e ∙ sym row) (same_Some g.rule rule named ∙ sym is)
    by_row false e = let no : None ≡ Some rule = sym (ap (λ b. cond b (Some g.rule) None) e) ∙ h in absurd (cc)

module _ (plan : PlanModel) (rows : List Row) where
  -- no answer names a legal row, where those before are the start of a legal run
  not_legal : (p : Piece) (f : Fault) (s : Split rows (f.row - 1)) → TellsFirst plan (broken_in plan p) rows (Some f) → IsRunStart plan (s.pre ++ s.at ∷ []) → ⊥
  not_legal p f s tells start =
      let before = start_before plan s.pre (s.at ∷ []) start in
      let size = s.size in
      let low = tells.row.0 in
      let named = told_own f (length s.pre + 1) (omega (arith, size, low)) in
      let no : Some f.rule ≡ None = sym named ∙ (tells.told s.pre s.at s.post s.is before ∙ sound plan p s.pre s.at (start_last plan s.pre s.at start)) in
      absurd (cc)

  silent : (p : Piece) → IsRunStart plan rows → (o : Option Fault) → TellsFirst plan (broken_in plan p) rows o → o ≡ None
  silent p start None tells = refl
  silent p start (Some f) tells =
      let row = tells.row in
      let s = split_at rows (f.row - 1) (omega (arith, row.0, row.1)) in
      absurd (not_legal p f s tells (start_before plan (s.pre ++ s.at ∷ []) s.post (subst (IsRunStart plan) (s.is ∙ sym (append_assoc s.pre (s.at ∷ []) s.post)) start)))

  behind : (p : Piece) (f : Fault) → IsBroken plan rows f → (o : Option Fault) → TellsFirst plan (broken_in plan p) rows o → AtLeast f o
  behind p f b None tells = tt
  behind p f b (Some g) tells =
      let row = tells.row in
      let number = b.number in
      let a = few_rules f.rule in
      elim (cases_lt g.row f.row) [
        | inl low ↦
            let s = split_at rows (g.row - 1) (omega (arith, row.0, row.1)) in
            let size = s.size in
            let i = length s.pre in
            let whole = start_at plan rows b.before b.behind b.broke s.at i b.place b.start (omega (arith, size, low, number, row.0)) (sym (ap (λ l. get_or l i s.at) s.is ∙ get_or_at s.pre s.at s.post s.at i refl)) in
            let before : take i rows ≡ s.pre = ap (take i) s.is ∙ take_at s.pre (s.at ∷ s.post) i refl in
            absurd (not_legal p g s tells (subst (λ l. IsRunStart plan (l ++ s.at ∷ [])) before whole))
        | inr high ↦ elim (cases_lt f.row g.row) [
          | inl past ↦ omega (arith, past, a)
          | inr low ↦
              let same : g.row ≡ length b.before + 1 = omega (arith, high, low, number) in
              let told : broken_in plan p b.before b.broke ≡ Some g.rule = sym (tells.told b.before b.broke b.behind b.place b.start) ∙ told_own g (length b.before + 1) same in
              let f-low = finds plan p b.before b.broke g.rule told in
              let one : f-low.low ≡ f.rule = same_Some f-low.low f.rule (sym f-low.is ∙ b.rule) in
              let below : rule_number f.rule ≤ rule_number g.rule = subst (λ u. rule_number u ≤ rule_number g.rule) one f-low.below in
              omega (arith, high, below)
        ]
      ]

  -- the piece of that number tells so
  abbrev Tells : ℕ → Option Fault → Type 0
  Tells n o = TellsFirst plan (broken_in plan (piece_with plan n)) rows o

  all_silent : IsRunStart plan rows → (ns : List ℕ) (os : List (Option Fault)) → AllZip Tells ns os → AllByRecursion (λ o. o ≡ None) os
  all_silent start [] [] z = tt
  all_silent start [] (o ∷ os) z = absurd z
  all_silent start (n ∷ ns) [] z = absurd z
  all_silent start (n ∷ ns) (o ∷ os) z = (silent (piece_with plan n) start o z.0, all_silent start ns os z.1)

  all_behind : (f : Fault) → IsBroken plan rows f → (ns : List ℕ) (os : List (Option Fault)) → AllZip Tells ns os → AllByRecursion (AtLeast f) os
  all_behind f b [] [] z = tt
  all_behind f b [] (o ∷ os) z = absurd z
  all_behind f b (n ∷ ns) [] z = absurd z
  all_behind f b (n ∷ ns) (o ∷ os) z = (behind (piece_with plan n) f b o z.0, all_behind f b ns os z.1)

  one_has : (f : Fault) (k a n : ℕ) (os : List (Option Fault)) → AllZip Tells (range_with_len a n) os → a ≤ k → k < a + n → ((o : Option Fault) → Tells k o → o ≡ Some f) → HasFault f os
  one_has f k a zero os z low high is = absurd (omega (arith, low, high))
  one_has f k a (suc n) [] z low high is = absurd z
  one_has f k a (suc n) (o ∷ os) z low high is = elim (cases_eq a k) [
    | inl e ↦ inl (is o (subst (λ m. Tells m o) e z.0))
    | inr ne ↦ inr (one_has f k (a + 1) n os z.1 (omega (arith, low, ne)) (omega (arith, high)) is)
  ]

  first_by : (faults : List (Option Fault)) → IsPlan plan → length rows ≤ plan.cores * plan.ticks → AllZip Tells (range_with_len 0 (pieces_of plan)) faults → (o : Option Fault) → fault_in plan rows ≡ o → earliest_of faults ≡ o
  first_by faults ok within z None e = none_earliest faults (all_silent (record { size = within; each = no_fault plan [] rows within e }) (range_with_len 0 (pieces_of plan)) faults z)
  first_by faults ok within z (Some f) e = elim (early_fault plan rows f e) [
    | inl b ↦
        let it = found plan b.before b.broke f.rule ok b.due b.rule in
        let known = it.known in
        least f None faults tt (all_behind f b (range_with_len 0 (pieces_of plan)) faults z)
        (inr (one_has f it.number 0 (pieces_of plan) faults z (omega arith) (omega (arith, known)) (λ o tells. told_is (length b.before + 1) o f.rule (tells.told b.before b.broke b.behind b.place b.start ∙ it.finds) f b.number refl)))
    | inr extra ↦
        let size = split_length rows extra.before extra.behind extra.extra extra.place in
        let all = extra.run.size in
        absurd (omega (arith, size, all, within))
  ]

  -- the earliest of all answers is the first fault
  pub first_is : (faults : List (Option Fault)) → IsPlan plan → length rows ≤ plan.cores * plan.ticks → AllZip Tells (range_with_len 0 (pieces_of plan)) faults → earliest_of faults ≡ fault_in plan rows
  first_is faults ok within z = first_by faults ok within z (fault_in plan rows) refl

-- ---- the whole trace
-- a fault of the rows that are due is the verdict
pub due_fault : (plan : PlanModel) (rows : List Row) (n : ℕ) (f : Fault) → fault_in plan (take n rows) ≡ Some f → verdict plan rows ≡ Some f
due_fault plan rows n f h = early_is plan rows f (subst (λ l. fault_in plan l ≡ Some f) (take-append-drop n rows) (fault_stays plan (take n rows) (drop n rows) f h))

-- and else the length decides
extra_row : (plan : PlanModel) (pre rows : List Row) → length pre ≡ plan.cores * plan.ticks → fault_in plan pre ≡ None → 0 < length rows → verdict plan (pre ++ rows) ≡ Some (record { row = plan.cores * plan.ticks + 1; rule = A7 })
extra_row plan pre [] size none some = absurd (omega (arith, some))
extra_row plan pre (r ∷ rows) size none some =
    let past : nat_lt (length pre) (plan.cores * plan.ticks) ≡ false = le-ltb (length pre) (plan.cores * plan.ticks) (omega (arith, size)) in
    let now : refused plan pre r ≡ Some A7 = ap (λ b. cond b (broken plan pre r) (Some A7)) past in
    let first : fault_in plan (pre ++ r ∷ rows) ≡ Some (record { row = length pre + 1; rule = A7 }) = fault_append plan [] pre (r ∷ rows) ∙ (ap (λ o. option_or o (fault_from plan pre (r ∷ rows))) none ∙ ap (λ o. fault_or o (length pre + 1) (fault_from plan (pre ++ r ∷ []) rows)) now) in
    let at : ℕ → Option Fault = λ n. Some (record { row = n; rule = A7 }) in
    ap (λ o. option_or o (missing plan (pre ++ r ∷ rows))) first ∙ ap (λ n. at (n + 1)) size

pub by_length : (plan : PlanModel) (rows : List Row) → fault_in plan (take (plan.cores * plan.ticks) rows) ≡ None → length_fault_of (plan.cores * plan.ticks) (length rows) ≡ verdict plan rows
by_length plan rows none =
    let all = plan.cores * plan.ticks in
    elim (cases_lt all (length rows)) [
      | inl more ↦
          let size : length (take all rows) ≡ all = length-take-le all rows (omega (arith, more)) in
          let rest = length-drop all rows in
          let whole = extra_row plan (take all rows) (drop all rows) size none (omega (arith, rest, more)) in
          let low : nat_lt (length rows) all ≡ false = le-ltb (length rows) all (omega (arith, more)) in
          let high : nat_lt all (length rows) ≡ true = lt-ltb all (length rows) more in
          let short : Option Fault = Some (record { row = length rows + 1; rule = A6 }) in
          let long : Option Fault = Some (record { row = all + 1; rule = A7 }) in
          ap (λ b. cond b short (cond (nat_lt all (length rows)) long None)) low ∙ (ap (λ b. cond b long None) high ∙ sym (subst (λ l. verdict plan l ≡ long) (take-append-drop all rows) whole))
      | inr few ↦
          let same : take all rows ≡ rows = take_all all rows few in
          let clean : fault_in plan rows ≡ None = subst (λ l. fault_in plan l ≡ None) same none in
          let high : nat_lt all (length rows) ≡ false = le-ltb all (length rows) few in
          let short : Option Fault = Some (record { row = length rows + 1; rule = A6 }) in
          let long : Option Fault = Some (record { row = all + 1; rule = A7 }) in
          ap (λ b. cond (nat_lt (length rows) all) short (cond b long None)) high ∙ sym (ap (λ o. option_or o (missing plan rows)) clean)
    ]

-- the rows that are due, or all where there are fewer
pub take_due : {X : Type 0} (rows : List X) (all n : ℕ) → n ≡ min (length rows) all → take n rows ≡ take all rows
take_due rows all n is = elim (cases_lt all (length rows)) [
  | inl more ↦ ap (λ k. take k rows) (let e : n ≡ all = omega (arith, is, more) in e)
  | inr few ↦ take_all n rows (omega (arith, is, few)) ∙ sym (take_all all rows few)
]

-- the answers of the pieces, each of which had memory
unwrapped : {X Y : Type 0} (E : Type 0) (P : X → Y → Type 0) (us : List X) (vs : List Y) → AllZip (λ x (r : Result Y E). IfOk r (P x)) us (map Ok vs) → AllZip P us vs
unwrapped E P [] [] h = tt
unwrapped E P [] (v ∷ vs) h = absurd h
unwrapped E P (u ∷ us) [] h = absurd h
unwrapped E P (u ∷ us) (v ∷ vs) h = (h.0, unwrapped E P us vs h.1)

pub all_ok : {X Y E : Type 0} (P : X → Y → Type 0) (xs : List X) (rs : List (Result Y E)) (ys : List Y) → rs ≡ map Ok ys → AllZip (λ x r. IfOk r (P x)) xs rs → AllZip P xs ys
all_ok P xs rs ys is z = unwrapped _ P xs ys (subst (AllZip (λ x r. IfOk r (P x)) xs) is z)

-- what holds of a value that is there
pub opened : {V E : Type 0} (P : V → Type 0) (r : Result V E) (v : V) → r ≡ Ok v → IfOk r P → P v
opened P r v is h = subst (λ q. IfOk q P) is h

pub matched : {V E : Type 0} (P : V → Type 0) (Q : E → Type 0) (r : Result V E) (v : V) → r ≡ Ok v → MatchResult r P Q → P v
matched P Q r v is h = subst (λ q. MatchResult q P Q) is h
