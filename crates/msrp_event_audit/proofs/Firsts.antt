-- The first of a list and the ceiling of its jobs, with one job more.
use Rattle.std.proofs.Common.{◌≡◌, ◌+◌, ◌<◌, ◌||◌, ◌&&◌, ◌∷◌, ◌++◌, ◌∙◌}
use Rattle.msrp_plan.proofs.Common.{ℕ, Bool, true, false, cond, not, List, [], Some, None, map, take, max, refl, ap, sym, arith, length, filter, list_any, greatest, filter-append, list_any-append, append-nil, option_or, drop, get_or, PlanModel, is_global, local_ceiling, top, least, take_more, take-append-drop, ceiling_with, resources}
use Rattle.std.specs.List.{best_of, fold}
use Rattle.std.specs.Prelude.{find}
use Rattle.std.proofs.lemmas.List.Elements.{filter_agree}
use Rattle.std.proofs.lemmas.List.Folds.{find-append}
use Rattle.msrp_events.specs.LiveJobs.{is_on, holds}
use Rattle.msrp_events.specs.Choices.{is_before, is_among, first_of, ceiling}
use Rattle.msrp_events.specs.declared.states.LiveJob.{LiveJob}
use Rattle.msrp_event_audit.specs.LogJobs.{earlier}

-- ---- the first
best_push : {X : Type 0} (lt : X → X → Bool) (a : X) (xs : List X) (x : X) → best_of lt a (xs ++ x ∷ []) ≡ cond (lt x (best_of lt a xs)) x (best_of lt a xs)
best_push lt a [] x = refl
best_push lt a (y ∷ ys) x = best_push lt (cond (lt y a) y a) ys x

least_push : (system : PlanModel) (js : List LiveJob) (j : LiveJob) → least (is_before system) (js ++ j ∷ []) ≡ Some (earlier system (least (is_before system) js) j)
least_push system [] j = refl
least_push system (i ∷ js) j = ap (λ x. Some x) (best_push (is_before system) i js j)

pub first_with : (system : PlanModel) (jobs : List LiveJob) (c : ℕ) (started : Bool) (t : ℕ) (d : LiveJob) → t < length jobs → is_among system c started (get_or jobs t d) ≡ true
    → Some (earlier system (first_of system (take t jobs) c started) (get_or jobs t d)) ≡ first_of system (take (t + 1) jobs) c started
first_with system jobs c started t d l passes =
    let p = is_among system c started in
    sym (ap (λ js. least (is_before system) (filter p js)) (take_more jobs t d l)
    ∙ (ap (least (is_before system)) (filter-append p (take t jobs) (get_or jobs t d ∷ []) ∙ ap (λ b. filter p (take t jobs) ++ cond b (get_or jobs t d ∷ []) []) passes)
    ∙ least_push system (filter p (take t jobs)) (get_or jobs t d)))

pub first_kept : (system : PlanModel) (jobs : List LiveJob) (c : ℕ) (started : Bool) (t : ℕ) (d : LiveJob) → t < length jobs → is_among system c started (get_or jobs t d) ≡ false
    → first_of system (take t jobs) c started ≡ first_of system (take (t + 1) jobs) c started
first_kept system jobs c started t d l fails =
    let p = is_among system c started in
    sym (ap (λ js. least (is_before system) (filter p js)) (take_more jobs t d l)
    ∙ ap (least (is_before system)) (filter-append p (take t jobs) (get_or jobs t d ∷ []) ∙ (ap (λ b. filter p (take t jobs) ++ cond b (get_or jobs t d ∷ []) []) fails ∙ append-nil (filter p (take t jobs)))))

-- ---- the ceiling
max_left : (a : ℕ) (ns : List ℕ) → fold max a ns ≡ max a (fold max 0 ns)
max_left a [] = omega arith
max_left a (n ∷ ns) =
    let h = max_left (max a n) ns in
    let k = max_left (max 0 n) ns in
    omega (arith, h, k)

greatest_cons : (n : ℕ) (ns : List ℕ) → greatest (n ∷ ns) ≡ max n (greatest ns)
greatest_cons n ns = let h = max_left (max 0 n) ns in omega (arith, h)

-- the greatest image of what passes one of two tests
greatest_or : (f : ℕ → ℕ) (p q : ℕ → Bool) (gs : List ℕ) → greatest (map f (filter (λ g. p g || q g) gs)) ≡ max (greatest (map f (filter p gs))) (greatest (map f (filter q gs)))
greatest_or f p q [] = refl
greatest_or f p q (g ∷ gs) = by_cases (p g) (q g) (greatest_or f p q gs) where
  by_cases : (a b : Bool) → greatest (map f (filter (λ g. p g || q g) gs)) ≡ max (greatest (map f (filter p gs))) (greatest (map f (filter q gs)))
      → greatest (map f (cond (a || b) (g ∷ filter (λ g. p g || q g) gs) (filter (λ g. p g || q g) gs))) ≡ max (greatest (map f (cond a (g ∷ filter p gs) (filter p gs)))) (greatest (map f (cond b (g ∷ filter q gs) (filter q gs))))
  by_cases true true h =
      let x = greatest_cons (f g) (map f (filter (λ g. p g || q g) gs)) in let y = greatest_cons (f g) (map f (filter p gs)) in let z = greatest_cons (f g) (map f (filter q gs)) in omega (arith, h, x, y, z)
  by_cases true false h =
      let x = greatest_cons (f g) (map f (filter (λ g. p g || q g) gs)) in let y = greatest_cons (f g) (map f (filter p gs)) in omega (arith, h, x, y)
  by_cases false true h =
      let x = greatest_cons (f g) (map f (filter (λ g. p g || q g) gs)) in let z = greatest_cons (f g) (map f (filter q gs)) in omega (arith, h, x, z)
  by_cases false false h = h

and_or : (k a b : Bool) → (k && (a || b)) ≡ ((k && a) || (k && b))
and_or true a b = refl
and_or false a b = refl

or_swap : (a b c d : Bool) → ((a || b) || (c || d)) ≡ ((a || c) || (b || d))
or_swap true b c d = refl
or_swap false true true d = refl
or_swap false true false d = refl
or_swap false false c d = refl

any_or : (p q : ℕ → Bool) (gs : List ℕ) → list_any (λ g. p g || q g) gs ≡ (list_any p gs || list_any q gs)
any_or p q [] = refl
any_or p q (g ∷ gs) = ap (λ b. (p g || q g) || b) (any_or p q gs) ∙ or_swap (p g) (q g) (list_any p gs) (list_any q gs)

any_agree : (p q : ℕ → Bool) → ((g : ℕ) → p g ≡ q g) → (gs : List ℕ) → list_any p gs ≡ list_any q gs
any_agree p q e [] = refl
any_agree p q e (g ∷ gs) = ap (λ b. b || list_any p gs) (e g) ∙ ap (λ b. q g || b) (any_agree p q e gs)

raise : (a b : Bool) (n : ℕ) → cond (a || b) n 0 ≡ max (cond a n 0) (cond b n 0)
raise true true n = omega arith
raise true false n = omega arith
raise false b n = omega arith

max_swap : (a b c d : ℕ) → max (max a b) (max c d) ≡ max (max a c) (max b d)
max_swap a b c d = omega arith

-- the ceiling by the holdings of two is the greater of theirs
ceiling_or : (system : PlanModel) (c : ℕ) (q r : Bool) (h k : ℕ → Bool) → ceiling_with system c (q || r) (λ g. h g || k g) ≡ max (ceiling_with system c q h) (ceiling_with system c r k)
ceiling_or system c q r h k =
    let gs = resources system in
    let part : (ℕ → Bool) → ℕ = λ p. greatest (map (local_ceiling system) (filter (λ g. not (is_global system g) && p g) gs)) in
    let lift : (ℕ → Bool) → Bool = λ p. list_any (λ g. is_global system g && p g) gs in
    let parts : part (λ g. h g || k g) ≡ max (part h) (part k) =
    ap (λ ys. greatest (map (local_ceiling system) ys)) (filter_agree (λ g. not (is_global system g) && (h g || k g)) (λ g. (not (is_global system g) && h g) || (not (is_global system g) && k g)) (λ g. and_or (not (is_global system g)) (h g) (k g)) gs)
    ∙ greatest_or (local_ceiling system) (λ g. not (is_global system g) && h g) (λ g. not (is_global system g) && k g) gs in
    let lifts : lift (λ g. h g || k g) ≡ (lift h || lift k) =
    any_agree (λ g. is_global system g && (h g || k g)) (λ g. (is_global system g && h g) || (is_global system g && k g)) (λ g. and_or (is_global system g) (h g) (k g)) gs
    ∙ any_or (λ g. is_global system g && h g) (λ g. is_global system g && k g) gs in
    let tops : cond ((q || r) || lift (λ g. h g || k g)) (top system c) 0 ≡ max (cond (q || lift h) (top system c) 0) (cond (r || lift k) (top system c) 0) =
    ap (λ b. cond ((q || r) || b) (top system c) 0) lifts ∙ (ap (λ b. cond b (top system c) 0) (or_swap q r (lift h) (lift k)) ∙ raise (q || lift h) (r || lift k) (top system c)) in
    ap (λ n. max n (cond ((q || r) || lift (λ g. h g || k g)) (top system c) 0)) parts ∙ (ap (max (max (part h) (part k))) tops ∙ max_swap (part h) (part k) (cond (q || lift h) (top system c) 0) (cond (r || lift k) (top system c) 0))

-- nobody holds or awaits anything
pub ceiling_none : (system : PlanModel) (c : ℕ) → ceiling system [] c ≡ 0
ceiling_none system c =
    let gs = resources system in
    ap (λ n. max n (cond (list_any (λ g. is_global system g && false) gs) (top system c) 0)) (ap (λ ys. greatest (map (local_ceiling system) ys)) (none_pass gs))
    ∙ ap (λ b. max 0 (cond b (top system c) 0)) (none_any gs)
  where
    and_false : (b : Bool) → (b && false) ≡ false
    and_false true = refl
    and_false false = refl

    none_pass : (gs : List ℕ) → filter (λ g. not (is_global system g) && false) gs ≡ []
    none_pass [] = refl
    none_pass (g ∷ gs) = ap (λ b. cond b (g ∷ filter (λ g. not (is_global system g) && false) gs) (filter (λ g. not (is_global system g) && false) gs)) (and_false (not (is_global system g))) ∙ none_pass gs

    none_any : (gs : List ℕ) → list_any (λ g. is_global system g && false) gs ≡ false
    none_any [] = refl
    none_any (g ∷ gs) = ap (λ b. b || list_any (λ g. is_global system g && false) gs) (and_false (is_global system g)) ∙ none_any gs

-- what two tests agree on raises the ceiling alike
ceiling_agree : (system : PlanModel) (c : ℕ) (q r : Bool) (h k : ℕ → Bool) → q ≡ r → ((g : ℕ) → h g ≡ k g) → ceiling_with system c q h ≡ ceiling_with system c r k
ceiling_agree system c q r h k e agree =
    let gs = resources system in
    ap (λ ys. max (greatest (map (local_ceiling system) ys)) (cond (q || list_any (λ g. is_global system g && h g) gs) (top system c) 0)) (filter_agree (λ g. not (is_global system g) && h g) (λ g. not (is_global system g) && k g) (λ g. ap (λ b. not (is_global system g) && b) (agree g)) gs)
    ∙ (ap (λ b. max (greatest (map (local_ceiling system) (filter (λ g. not (is_global system g) && k g) gs))) (cond (q || b) (top system c) 0)) (any_agree (λ g. is_global system g && h g) (λ g. is_global system g && k g) (λ g. ap (λ b. is_global system g && b) (agree g)) gs)
    ∙ ap (λ b. max (greatest (map (local_ceiling system) (filter (λ g. not (is_global system g) && k g) gs))) (cond (b || list_any (λ g. is_global system g && k g) gs) (top system c) 0)) e)

-- the ceiling that one job alone makes, if it is of the core
abbrev pub ceiling_by : PlanModel → ℕ → LiveJob → Bool → ℕ
ceiling_by system c j own = ceiling_with system c (own && j.waits) (λ g. own && holds system g j)

ceiling_push : (system : PlanModel) (c : ℕ) (js : List LiveJob) (j : LiveJob) → ceiling system (js ++ j ∷ []) c ≡ max (ceiling system js c) (ceiling_by system c j (is_on system c j))
ceiling_push system c js j =
    ceiling_agree system c _ _ _ _ (push (λ x. is_on system c x && x.waits) js j) (λ g. push (λ x. is_on system c x && holds system g x) js j)
    ∙ ceiling_or system c (list_any (λ x. is_on system c x && x.waits) js) (is_on system c j && j.waits) (λ g. list_any (λ x. is_on system c x && holds system g x) js) (λ g. is_on system c j && holds system g j)
  where
    or_none : (b : Bool) → (b || false) ≡ b
    or_none true = refl
    or_none false = refl

    push : (p : LiveJob → Bool) (js : List LiveJob) (j : LiveJob) → list_any p (js ++ j ∷ []) ≡ (list_any p js || p j)
    push p js j = list_any-append p js (j ∷ []) ∙ ap (λ b. list_any p js || b) (or_none (p j))

pub ceiling_more : (system : PlanModel) (jobs : List LiveJob) (c : ℕ) (t : ℕ) (d : LiveJob) → t < length jobs → is_on system c (get_or jobs t d) ≡ true
    → max (ceiling_with system c (get_or jobs t d).waits (λ g. holds system g (get_or jobs t d))) (ceiling system (take t jobs) c) ≡ ceiling system (take (t + 1) jobs) c
ceiling_more system jobs c t d l own =
    let j = get_or jobs t d in
    let e : ceiling system (take (t + 1) jobs) c ≡ max (ceiling system (take t jobs) c) (ceiling_by system c j true) =
    ap (λ js. ceiling system js c) (take_more jobs t d l) ∙ (ceiling_push system c (take t jobs) j ∙ ap (λ b. max (ceiling system (take t jobs) c) (ceiling_by system c j b)) own) in
    swap (ceiling_by system c j true) (ceiling system (take t jobs) c) ∙ sym e
  where
    swap : (a b : ℕ) → max a b ≡ max b a
    swap a b = omega arith

pub ceiling_kept : (system : PlanModel) (jobs : List LiveJob) (c : ℕ) (t : ℕ) (d : LiveJob) → t < length jobs → is_on system c (get_or jobs t d) ≡ false
    → ceiling system (take t jobs) c ≡ ceiling system (take (t + 1) jobs) c
ceiling_kept system jobs c t d l other =
    let j = get_or jobs t d in
    let e : ceiling system (take (t + 1) jobs) c ≡ max (ceiling system (take t jobs) c) (ceiling_by system c j false) =
    ap (λ js. ceiling system js c) (take_more jobs t d l) ∙ (ceiling_push system c (take t jobs) j ∙ ap (λ b. max (ceiling system (take t jobs) c) (ceiling_by system c j b)) other) in
    let none : ceiling_by system c j false ≡ 0 = ceiling_none system c in
    with_none (ceiling system (take t jobs) c) _ none ∙ sym e
  where
    with_none : (a b : ℕ) → b ≡ 0 → a ≡ max a b
    with_none a b e = omega arith

-- ---- the first that awaits
-- none is found among one more
pub find_next : {X : Type 0} (p : X → Bool) (xs : List X) (i : ℕ) (d : X) → i < length xs → find p (take i xs) ≡ None → p (get_or xs i d) ≡ false → find p (take (i + 1) xs) ≡ None
find_next p xs i d l h fails = ap (find p) (take_more xs i d l) ∙ (find-append p (take i xs) (get_or xs i d ∷ []) ∙ (ap (λ o. option_or o (find p (get_or xs i d ∷ []))) h ∙ ap (λ b. cond b (Some (get_or xs i d)) None) fails))

find_at : {X : Type 0} (p : X → Bool) (xs : List X) (i : ℕ) (d : X) → i < length xs → find p (take i xs) ≡ None → p (get_or xs i d) ≡ true → find p (take (i + 1) xs) ≡ Some (get_or xs i d)
find_at p xs i d l h passes = ap (find p) (take_more xs i d l) ∙ (find-append p (take i xs) (get_or xs i d ∷ []) ∙ (ap (λ o. option_or o (find p (get_or xs i d ∷ []))) h ∙ ap (λ b. cond b (Some (get_or xs i d)) None) passes))

-- what is found in a first part is found in the whole
pub find_whole : {X : Type 0} (p : X → Bool) (xs : List X) (i : ℕ) (d : X) → i < length xs → find p (take i xs) ≡ None → p (get_or xs i d) ≡ true → find p xs ≡ Some (get_or xs i d)
find_whole p xs i d l h passes =
    ap (find p) (sym (take-append-drop (i + 1) xs)) ∙ (find-append p (take (i + 1) xs) (drop (i + 1) xs) ∙ ap (λ o. option_or o (find p (drop (i + 1) xs))) (find_at p xs i d l h passes))
