-- One started job more or less, and one resource more or less that the newest holds.
use Rattle.std.proofs.Common.{◌≡◌, ◌<◌, ◌≤◌, ◌+◌, ◌-◌, ◌||◌, ◌∷◌, ◌++◌, ◌∙◌}
use Rattle.msrp_plan.proofs.Common.{ℕ, true, false, max, List, [], map, reverse, length, set, slice_index_or, Option, Some, None, refl, ap, sym, subst, arith, length-append, append-nil, inl, inr, flat_map, AllByRecursion, Contains, list_any, option_to_list, true≢false, cases_Bool, cases_eq, cases_lt, false_from_ne_true, get_or-append_seam, length-map, get_or-set_same, get_or-set_other, PlanModel, jobs, jobs_on, same_job, is_before, IsPlan, same_is, same_self, same_symm, before_order, irrefl, any_in}
use Rattle.msrp_stack.proofs.Common.{CanStart, ComesFirst, Held, IsDistinct, IsDone, IsFalling, IsStack, JobId, Layers, Started, StartedJob, ceiling_at, layers_of, started_of, started_view, with_held, without_held}
use Rattle.std.specs.Cmp.{IsEquivalence}
use Rattle.std.proofs.lemmas.Map.Made.{length-le_from_is_member}
use Rattle.std.proofs.Math.Seq.{set-append_seam}
use Rattle.std.proofs.lemmas.List.{reverse-append, length-reverse}
use Rattle.msrp_plan.proofs.Jobs.JobTests.{same_congr}
use Rattle.msrp_stack.proofs.Tops.{before_all}

-- ---- the last of a list, and the first of its reverse
-- a list that isn't empty has a last element
pub record EndsIn {X : Type 0} (items : List X) : Type 0 where
  pub front : List X
  pub last : X
  pub is : items ≡ front ++ last ∷ []

ends_after : {X : Type 0} (x : X) (xs : List X) → EndsIn (x ∷ xs)
ends_after x [] = record { front = []; last = x; is = refl }
ends_after x (y ∷ xs) = let e = ends_after y xs in record { front = x ∷ e.front; last = e.last; is = ap (λ l. x ∷ l) e.is }

pub ends_in : {X : Type 0} (items : List X) → 0 < length items → EndsIn items
ends_in [] l = absurd (omega (arith, l))
ends_in (x ∷ xs) l = ends_after x xs

-- the reverse begins with it
pub reverse_push : {X : Type 0} (xs : List X) (x : X) → reverse (xs ++ x ∷ []) ≡ x ∷ reverse xs
reverse_push xs x = reverse-append xs (x ∷ [])

-- another one in its place
pub set_last : {X : Type 0} (xs : List X) (x y : X) → set (xs ++ x ∷ []) (length (xs ++ x ∷ []) - 1) y ≡ xs ++ y ∷ []
set_last xs x y =
    let n : length (xs ++ x ∷ []) - 1 ≡ length xs = omega (arith, length-append xs (x ∷ [])) in
    ap (λ k. set (xs ++ x ∷ []) k y) n ∙ set-append_seam xs x [] y

-- ---- what a clause and the ceiling see of the newest
pub started_push : (xs : List Started) (x : Started) → started_of (xs ++ x ∷ []) ≡ started_view x ∷ started_of xs
started_push xs x = ap (map started_view) (reverse_push xs x)

pub layers_push : (xs : List Started) (x : Started) → layers_of (xs ++ x ∷ []) ≡ reverse x.held.items ++ layers_of xs
layers_push xs x = ap (flat_map (λ s. reverse s.held.items)) (reverse_push xs x)

-- ---- the newest is finished
no_images : {X Y : Type 0} (f : X → Y) (xs : List X) → map f xs ≡ [] → xs ≡ []
no_images f [] h = refl
no_images f (x ∷ xs) h = absurd (cc)

finished : (plan : PlanModel) (core : ℕ) (ceilings : List ℕ) (xs : List Started) (x : Started) (room current : ℕ) → IsDone (started_of (xs ++ x ∷ [])) → IsStack plan core ceilings (xs ++ x ∷ []) room current → IsStack plan core ceilings xs room current
finished plan core ceilings xs x room current done h =
    let none : reverse x.held.items ≡ [] = no_images (λ h. h.res.0) (reverse x.held.items) (subst IsDone (started_push xs x) done) in
    let layers : layers_of (xs ++ x ∷ []) ≡ layers_of xs = layers_push xs x ∙ ap (λ hs. hs ++ layers_of xs) none in
    record {
      accepted = h.accepted;
      size = h.size;
      told = h.told;
      layers = subst (Layers plan core current) layers h.layers;
      known = (subst (AllByRecursion (λ s. Contains (jobs_on plan core) s.job)) (started_push xs x) h.known).1;
      falling = (subst (IsFalling plan) (started_push xs x) h.falling).1;
      fits = h.fits;
    }

pub finish_keeps : (plan : PlanModel) (core : ℕ) (ceilings : List ℕ) (items rest : List Started) (o : Option Started) (room current : ℕ) → items ≡ rest ++ option_to_list o → IsDone (started_of items) → IsStack plan core ceilings items room current → IsStack plan core ceilings rest room current
finish_keeps plan core ceilings items rest None room current e done h = subst (λ l. IsStack plan core ceilings l room current) (e ∙ append-nil rest) h
finish_keeps plan core ceilings items rest (Some x) room current e done h =
    finished plan core ceilings rest x room current (subst (λ l. IsDone (started_of l)) e done) (subst (λ l. IsStack plan core ceilings l room current) e h)

-- ---- a job starts: there is room for it
-- jobs of which one comes before the other differ
differ : (plan : PlanModel) (i j : JobId) → is_before plan i j ≡ true → same_job i j ≡ false
differ plan i j h = false_from_ne_true (same_job i j) (λ e. true≢false (sym h ∙ subst (λ k. is_before plan i k ≡ false) (same_is i j e) (irrefl (is_before plan) (before_order plan) i)))

-- so all started jobs differ
all_differ_from : (plan : PlanModel) (j : JobId) (started : List StartedJob) → AllByRecursion (λ s. is_before plan j s.job ≡ true) started → AllByRecursion (λ k. same_job j k ≡ false) (map (λ s. s.job) started)
all_differ_from plan j [] all = tt
all_differ_from plan j (s ∷ started) all = (differ plan j s.job all.0, all_differ_from plan j started all.1)

all_differ : (plan : PlanModel) (started : List StartedJob) → IsFalling plan started → IsDistinct same_job (map (λ s. s.job) started)
unfolding IsDistinct
all_differ plan [] falling = tt
all_differ plan (s ∷ started) falling = (all_differ_from plan s.job started (before_all plan s.job started falling.0 falling.1), all_differ plan started falling.1)

same_equivalence : IsEquivalence same_job
same_equivalence = record { refl = same_self; symm = same_symm; congr = same_congr }

-- each of them is a job of the core
found_in : (jobs : List JobId) (started : List StartedJob) (q : JobId) → AllByRecursion (λ s. Contains jobs s.job) started → list_any (same_job q) (map (λ s. s.job) started) ≡ true → list_any (same_job q) jobs ≡ true
found_in jobs [] q known h = absurd (cc)
found_in jobs (s ∷ started) q known h =
    elim (cases_Bool (same_job q s.job)) [
      | inl t ↦ any_in (same_job q) jobs s.job known.0 t
      | inr f ↦ found_in jobs started q known.1 (sym (ap (λ b. b || list_any (same_job q) (map (λ s. s.job) started)) f) ∙ h)
    ]

-- so they are no more than the jobs of the core
few_started : (plan : PlanModel) (jobs : List JobId) (started : List StartedJob) → AllByRecursion (λ s. Contains jobs s.job) started → IsFalling plan started → length started ≤ length jobs
few_started plan jobs started known falling =
    let k = length-le_from_is_member same_equivalence (map (λ s. s.job) started) jobs (all_differ plan started falling) (λ q h. found_in jobs started q known h) in
    let n = length-map started (λ (s : StartedJob). s.job) in
    omega (arith, k, n)

pub has_room : (plan : PlanModel) (core room : ℕ) (items : List Started) (j : JobId) → CanStart (record { plan = plan; core = core; started = started_of items }) j → AllByRecursion (λ s. Contains (jobs_on plan core) s.job) (started_of items) → IsFalling plan (started_of items) → length (jobs_on plan core) ≤ room → (k : ℕ) → k ≡ length items → k < room
has_room plan core room items j can known falling fits size e =
    let k = few_started plan (jobs_on plan core) (record { job = j; held = [] } ∷ started_of items) (can.known, known) (can.first, falling) in
    let n = length-map (reverse items) started_view in
    let r = length-reverse items in
    omega (arith, k, n, r, fits, e)

-- ---- one resource more or less that the newest holds
-- the newest, with other resources
same_below : (plan : PlanModel) (core : ℕ) (xs : List Started) (x y : Started) → y.job ≡ x.job
    → AllByRecursion (λ s. Contains (jobs_on plan core) s.job) (started_of (xs ++ x ∷ [])) × IsFalling plan (started_of (xs ++ x ∷ []))
    → AllByRecursion (λ s. Contains (jobs_on plan core) s.job) (started_of (xs ++ y ∷ [])) × IsFalling plan (started_of (xs ++ y ∷ []))
same_below plan core xs x y job h =
    let known = subst (AllByRecursion (λ s. Contains (jobs_on plan core) s.job)) (started_push xs x) h.0 in
    let falling = subst (IsFalling plan) (started_push xs x) h.1 in (
      subst (AllByRecursion (λ s. Contains (jobs_on plan core) s.job)) (sym (started_push xs y)) (subst (Contains (jobs_on plan core)) (sym job) known.0, known.1),
      subst (IsFalling plan) (sym (started_push xs y)) (subst (ComesFirst plan (started_of xs)) (sym job) falling.0, falling.1),
    )

-- y is x with one resource more, the innermost
pub record HasMore (x y : Started) (h : Held) : Type 0 where
  pub job : y.job ≡ x.job
  pub held : y.held.items ≡ x.held.items ++ h ∷ []

more_view : (x y : Started) (h : Held) → HasMore x y h → started_view y ≡ record { job = x.job; held = h.res.0 ∷ (started_view x).held }
more_view x y h m =
    let at : JobId → List ℕ → StartedJob = λ j l. record { job = j; held = l } in
    let held : map (λ h. h.res.0) (reverse y.held.items) ≡ h.res.0 ∷ (started_view x).held = ap (map (λ h. h.res.0)) (ap reverse m.held ∙ reverse_push x.held.items h) in
    ap (λ j. at j (map (λ h. h.res.0) (reverse y.held.items))) m.job ∙ ap (at x.job) held

more_layers : (xs : List Started) (x y : Started) (h : Held) → HasMore x y h → layers_of (xs ++ y ∷ []) ≡ h ∷ layers_of (xs ++ x ∷ [])
more_layers xs x y h m =
    layers_push xs y ∙ (ap (λ l. l ++ layers_of xs) (ap reverse m.held ∙ reverse_push x.held.items h) ∙ ap (λ l. h ∷ l) (sym (layers_push xs x)))

-- the view with one resource more, and with one less
more_started : (xs : List Started) (x y : Started) (h : Held) → HasMore x y h → started_of (xs ++ y ∷ []) ≡ with_held (started_of (xs ++ x ∷ [])) h.res.0
more_started xs x y h m = started_push xs y ∙ (ap (λ s. s ∷ started_of xs) (more_view x y h m) ∙ ap (λ l. with_held l h.res.0) (sym (started_push xs x)))

less_started : (xs : List Started) (x y : Started) (h : Held) → HasMore x y h → started_of (xs ++ x ∷ []) ≡ without_held (started_of (xs ++ y ∷ []))
less_started xs x y h m = started_push xs x ∙ sym (ap without_held (started_push xs y ∙ ap (λ s. s ∷ started_of xs) (more_view x y h m)))

-- the last of a list that isn't empty, and another one in its place
at_last : (items : List Started) (x : Started) → 0 < length items → slice_index_or items (length items - 1) x ≡ x → (xs : List Started) × (items ≡ xs ++ x ∷ [])
at_last items x l e =
    let end = ends_in items l in
    let n : length items - 1 ≡ length end.front = omega (arith, ap length end.is, length-append end.front (end.last ∷ [])) in
    let is : end.last ≡ x = sym (get_or-append_seam end.front end.last [] x) ∙ (ap (λ k. slice_index_or (end.front ++ end.last ∷ []) k x) (sym n) ∙ (ap (λ l. slice_index_or l (length items - 1) x) (sym end.is) ∙ e)) in
    (end.front, end.is ∙ ap (λ z. end.front ++ z ∷ []) is)

in_place : (items xs : List Started) (x y : Started) → items ≡ xs ++ x ∷ [] → set items (length items - 1) y ≡ xs ++ y ∷ []
in_place items xs x y e = ap (λ l. set l (length l - 1) y) e ∙ set_last xs x y

-- the newest takes a resource
take_last : (plan : PlanModel) (core : ℕ) (ceilings : List ℕ) (items : List Started) (x y : Started) (h : Held) (room current next : ℕ) → IsStack plan core ceilings items room current → 0 < length items → slice_index_or items (length items - 1) x ≡ x → HasMore x y h
    → h.res.0 < length plan.resources → next ≡ max (ceiling_at plan h.res.0 core) h.before → h.before ≡ current
    → IsStack plan core ceilings (set items (length items - 1) y) room next × (started_of (set items (length items - 1) y) ≡ with_held (started_of items) h.res.0)
take_last plan core ceilings items x y h room current next s some last m declared up before =
    let at = at_last items x some last in
    let xs = at.0 in
    let put = in_place items xs x y at.1 in
    let old = subst (λ l. IsStack plan core ceilings l room current) at.1 s in
    let jobs = same_below plan core xs x y m.job (old.known, old.falling) in
    let new : IsStack plan core ceilings (xs ++ y ∷ []) room next =
    record {
      accepted = old.accepted;
      size = old.size;
      told = old.told;
      layers = subst (Layers plan core next) (sym (more_layers xs x y h m)) (declared, up, subst (λ n. Layers plan core n (layers_of (xs ++ x ∷ []))) (sym before) old.layers);
      known = jobs.0;
      falling = jobs.1;
      fits = old.fits;
    } in
    (subst (λ l. IsStack plan core ceilings l room next) (sym put) new, ap started_of put ∙ (more_started xs x y h m ∙ ap (λ l. with_held (started_of l) h.res.0) (sym at.1)))

-- the newest gives its innermost back
give_back_last : (plan : PlanModel) (core : ℕ) (ceilings : List ℕ) (items : List Started) (y x : Started) (h : Held) (room current : ℕ) → IsStack plan core ceilings items room current → 0 < length items → slice_index_or items (length items - 1) y ≡ y → HasMore x y h
    → IsStack plan core ceilings (set items (length items - 1) x) room h.before × (started_of (set items (length items - 1) x) ≡ without_held (started_of items))
give_back_last plan core ceilings items y x h room current s some last m =
    let at = at_last items y some last in
    let xs = at.0 in
    let put = in_place items xs y x at.1 in
    let old = subst (λ l. IsStack plan core ceilings l room current) at.1 s in
    let jobs = same_below plan core xs y x (sym m.job) (old.known, old.falling) in
    let layers = subst (Layers plan core current) (more_layers xs x y h m) old.layers in
    let new : IsStack plan core ceilings (xs ++ x ∷ []) room h.before =
    record { accepted = old.accepted; size = old.size; told = old.told; layers = layers.2; known = jobs.0; falling = jobs.1; fits = old.fits } in
    (subst (λ l. IsStack plan core ceilings l room h.before) (sym put) new, ap started_of put ∙ (less_started xs x y h m ∙ ap (λ l. without_held (started_of l)) (sym at.1)))

-- a view that has a newest job is of some
pub some_items : (items : List Started) (P : List StartedJob → Type 0) → (P [] → ⊥) → P (started_of items) → 0 < length items
some_items [] P none h = absurd (none h)
some_items (x ∷ items) P none h = omega arith

-- the same, where the number of the jobs is called k
pub take_keeps : (plan : PlanModel) (core : ℕ) (ceilings : List ℕ) (items : List Started) (k : ℕ) (x y : Started) (h : Held) (room current next : ℕ) → k ≡ length items → IsStack plan core ceilings items room current → 0 < length items → x ≡ slice_index_or items (k - 1) x → HasMore x y h
    → h.res.0 < length plan.resources → next ≡ max (ceiling_at plan h.res.0 core) h.before → h.before ≡ current
    → IsStack plan core ceilings (set items (k - 1) y) room next × (started_of (set items (k - 1) y) ≡ with_held (started_of items) h.res.0)
take_keeps plan core ceilings items k x y h room current next n s some last m declared up before =
    subst (λ k. IsStack plan core ceilings (set items (k - 1) y) room next × (started_of (set items (k - 1) y) ≡ with_held (started_of items) h.res.0)) (sym n)
    (take_last plan core ceilings items x y h room current next s some (subst (λ k. slice_index_or items (k - 1) x ≡ x) n (sym last)) m declared up before)

pub give_back_keeps : (plan : PlanModel) (core : ℕ) (ceilings : List ℕ) (items : List Started) (k : ℕ) (y x : Started) (h : Held) (room current : ℕ) → k ≡ length items → IsStack plan core ceilings items room current → 0 < length items → y ≡ slice_index_or items (k - 1) y → HasMore x y h
    → IsStack plan core ceilings (set items (k - 1) x) room h.before × (started_of (set items (k - 1) x) ≡ without_held (started_of items))
give_back_keeps plan core ceilings items k y x h room current n s some last m =
    subst (λ k. IsStack plan core ceilings (set items (k - 1) x) room h.before × (started_of (set items (k - 1) x) ≡ without_held (started_of items))) (sym n)
    (give_back_last plan core ceilings items y x h room current s some (subst (λ k. slice_index_or items (k - 1) y ≡ y) n (sym last)) m)

-- ---- before the first start
below : (g k : ℕ) → g < k + 1 → (g ≡ k → ⊥) → g < k
below g k m other = elim (cases_lt g k) [
  | inl l ↦ l
  | inr h ↦ absurd (other (omega (arith, m, h)))
]

-- numbers up to one, and that one too
pub told_more : (f : ℕ → ℕ) (ns : List ℕ) (k n : ℕ) → k < length ns → n ≡ f k → ((g : ℕ) → g < k → slice_index_or ns g 0 ≡ f g) → (g : ℕ) → g < k + 1 → slice_index_or (set ns k n) g 0 ≡ f g
told_more f ns k n l e told g m =
    elim (cases_eq g k) [
      | inl same ↦ subst (λ i. slice_index_or (set ns k n) i 0 ≡ f i) (sym same) (get_or-set_same ns k n 0 l ∙ e)
      | inr other ↦ get_or-set_other ns k g n 0 other ∙ told g (below g k m other)
    ]

-- nothing is held, and there is room for every job of the core
pub nothing_started : (plan : PlanModel) (core : ℕ) (ceilings : List ℕ) (items : List Started) (room : ℕ) → IsPlan plan → length ceilings ≡ 32 → ((g : ℕ) → g < length plan.resources → slice_index_or ceilings g 0 ≡ ceiling_at plan g core) → items ≡ [] → length (jobs_on plan core) ≤ room → IsStack plan core ceilings items room 0
nothing_started plan core ceilings items room ok size told none fits =
    subst (λ l. IsStack plan core ceilings l room 0) (sym none) (
    record { accepted = ok; size = size; told = told; layers = refl; known = tt; falling = tt; fits = fits })
