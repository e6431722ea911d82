-- What a core and a run keep from call to call.
use Rattle.std.proofs.Common.{◌≡◌, ◌+◌, ◌<◌, ◌∷◌, ◌++◌, ◌∙◌}
use Rattle.msrp_plan.proofs.Common.{ℕ, suc, List, [], Some, None, arith, refl, subst, sym, ap, get_or, length, inl, inr, is_some, true, get_or-append_seam, get_or-replicate, length-map, Bool, false, nat_eq, nat_lt, carries_ahead, CoreRun}
use Rattle.std.proofs.lemmas.Bool.{ltb-false, ne_eqb}
use Rattle.std.proofs.lemmas.Bool.Decides.{eqb_tells}
use Rattle.msrp_plan.specs.Plan.{PlanModel}
use Rattle.msrp_board.specs.declared.answers.SeatPhase.TheVariants.{Waiting}
use Rattle.msrp_board.specs.Books.{phase_by, phase_in}
use Rattle.msrp_board.specs.Seats.{BoardModel, SeatModel, HasAll, IsCoreSeat, empty_book, first_seat}
use Rattle.msrp_board.specs.Steps.{both, either, with_conductor, without}
use Rattle.msrp_board.specs.declared.books.BoardSize.{BoardSize}
use Rattle.msrp_board.specs.declared.books.Conductor.{Conductor}
use Rattle.msrp_board.specs.declared.books.Conductor.TheVariants.{Opened}
use Rattle.msrp_board.proofs.SeatBooks.{no_other_book}
use Rattle.msrp_merge.specs.Merging.{size_of}
use Rattle.msrp_core.specs.Machine.{MachineModel, StandsAfter}
use Rattle.msrp_merge.specs.Turns.{LogModel, Fits, rows_of}
use Rattle.msrp_merge.specs.declared.logs.Turn.{Turn}
use Rattle.msrp_run.specs.Threads.{AllWorked, AreNewParts, HasOthers, HasRest}
use Rattle.msrp_run.specs.Work.{HasWorked, IsAtWork, IsNew, IsWorked}
use Rattle.msrp_run.specs.declared.workers.CoreParts.{CoreParts}
use Rattle.msrp_run.proofs.Threading.{others_less, rest_joined, rest_of_others, worked_more}
use Rattle.msrp_hosted.specs.Hosted.{HostedCoreModel}
use Rattle.msrp_hosted.specs.Inside.{IsHandingOut, IsOpened, turns_in}
use Rattle.msrp_hosted.specs.declared.steps.CoreStep.{CoreStep}

-- ---- a core
-- the last of the turns
pub last_turn : (turns : List Turn) (x y : Turn) (n : ℕ) → n ≡ length turns → ((d : Turn) → y ≡ get_or (turns ++ x ∷ []) n d) → y ≡ x
last_turn turns x y n at is = is x ∙ (ap (λ k. get_or (turns ++ x ∷ []) k x) at ∙ get_or-append_seam turns x [] x)

abbrev pub core_with : PlanModel → ℕ → BoardModel → List Turn → CoreStep → HostedCoreModel
core_with plan core board turns step = record { plan = plan; core = core; board = board; turns = turns; step = step }

pub core_as : (plan plan' : PlanModel) (core core' : ℕ) (board board' : BoardModel) (turns turns' : List Turn) (step : CoreStep) → plan ≡ plan' → core ≡ core' → board ≡ board' → turns ≡ turns' → core_with plan core board turns step ≡ core_with plan' core' board' turns' step
core_as plan plan' core core' board board' turns turns' step e f b g =
    ap (λ p. core_with p core board turns step) e ∙ (ap (λ c. core_with plan' c board turns step) f ∙ (ap (λ k. core_with plan' core' k turns step) b ∙ ap (λ t. core_with plan' core' board' t step) g))

waits_at : (ticks : ℕ) → 0 < ticks → (left : Bool) → nat_lt 0 ticks ≡ left → phase_by false false left ≡ Waiting
waits_at ticks some true e = refl
waits_at ticks some false e = (let none = ltb-false 0 ticks e in absurd (omega (arith, some, none)))

-- before its first turn a core is at work, where there is a tick
pub new_at_work : (board : BoardModel) (m : MachineModel) (log : LogModel) (seat : SeatModel) → IsNew board m log seat → 0 < m.plan.ticks → IsAtWork board m.plan m.core m log seat
new_at_work board m log seat n some = record {
  plan_is = refl;
  core = refl;
  stands = subst (λ (l : LogModel). StandsAfter m (rows_of l.turns)) (sym n.empty) n.stands;
  log_core = ap (λ (l : LogModel). l.core) n.empty;
  log_ticks = ap (λ (l : LogModel). l.ticks) n.empty;
  size = n.size;
  on = n.on;
  book = empty_book;
  of_core = n.of_core;
  waits = subst (λ t. phase_in t empty_book ≡ Waiting) (sym ticks) (waits_at m.plan.ticks some (nat_lt 0 m.plan.ticks) refl);
  tick = sym n.stands.tick;
  claims = sym n.stands.phase;
  run = subst (λ (l : LogModel). CoreRun m.plan m.core (rows_of l.turns)) (sym n.empty) tt;
  fits = subst (λ (l : LogModel). Fits l.turns []) (sym n.empty) (record { places = tt; steps = tt });
  aheads = ap (λ (l : LogModel). carries_ahead (rows_of l.turns)) n.empty;
}
  where
    ticks : seat.board.size.ticks ≡ m.plan.ticks
    ticks = ap (λ (b : BoardModel). b.size.ticks) n.on ∙ ap (λ (z : BoardSize). z.ticks) n.size

pub is_eq : (a b : ℕ) → a ≡ b → nat_eq a b ≡ true
is_eq a b e = elim (eqb_tells a b) [
  | inl yes_eq ↦ yes_eq.0
  | inr not_eq ↦ absurd (not_eq.1 e)
]

pub is_ne : (a b : ℕ) → a < b → nat_eq a b ≡ false
is_ne a b l = ne_eqb a b (λ e. absurd (omega (arith, l, e)))

-- ---- cores that are handed out
-- the first seat of a board has the books of all cores
pub first_others : (board : BoardModel) (rest : SeatModel) → rest ≡ first_seat board → HasOthers board 0 rest
first_others board rest is = subst (HasOthers board 0) (sym is) (record { on = refl; books = λ c from low. get_or-replicate board.size.cores c (Some empty_book) None low; conductor = refl })

pub first_parts : (plan : PlanModel) (handed left : ℕ) (items rest : List CoreParts) (parts : CoreParts) → ((k : ℕ) (d : CoreParts) → k < left → AreNewParts plan (handed + k) (get_or items k d)) → items ≡ parts ∷ rest → 0 < left → AreNewParts plan handed parts
first_parts plan handed left items rest parts each is some = subst (λ n. AreNewParts plan n parts) (omega arith) (subst (AreNewParts plan (handed + 0)) (ap (λ xs. get_or xs 0 parts) is) (each 0 parts some))

pub later_parts : (plan : PlanModel) (handed left k : ℕ) (items rest : List CoreParts) (parts d : CoreParts) → ((k : ℕ) (d : CoreParts) → k < left → AreNewParts plan (handed + k) (get_or items k d)) → items ≡ parts ∷ rest → suc k < left → AreNewParts plan ((handed + 1) + k) (get_or rest k d)
later_parts plan handed left k items rest parts d each is low = subst (λ n. AreNewParts plan n (get_or rest k d)) (omega arith) (subst (λ xs. AreNewParts plan (handed + suc k) (get_or xs (suc k) d)) is (each (suc k) d low))

pub still_handing : (board : BoardModel) (handed core : ℕ) (others rest opened : SeatModel) (logs : List LogModel) → IsHandingOut board handed others logs → core ≡ handed → rest ≡ without core others → opened ≡ rest → IsHandingOut board (handed + 1) opened logs
still_handing board handed core others rest opened logs i at less same = subst (λ s. IsHandingOut board (handed + 1) s logs) (sym same) (record { others = others_less board handed core others rest i.others at less; none = i.none })

none_worked : (plan : PlanModel) (logs : List LogModel) (seat : SeatModel) → logs ≡ [] → AllWorked plan logs seat
none_worked plan logs seat none k low = let n = ap length none in absurd (omega (arith, n, low))

pub all_out : (board : BoardModel) (plan : PlanModel) (handed core : ℕ) (others rest opened : SeatModel) (logs : List LogModel) → IsHandingOut board handed others logs → core ≡ handed → rest ≡ without core others → opened ≡ with_conductor Opened rest → handed + 1 ≡ plan.cores → IsOpened board plan opened logs
all_out board plan handed core others rest opened logs i at less is last = record {
  opened = subst (λ n. HasRest board n Opened opened) last (rest_of_others board (handed + 1) rest opened Opened (others_less board handed core others rest i.others at less) is);
  worked = none_worked plan logs opened i.none;
}

-- ---- cores that are joined
pub one_joined : (board : BoardModel) (plan : PlanModel) (c : ℕ) (rest seat joined : SeatModel) (logs : List LogModel) (log : LogModel) → IsOpened board plan rest logs → HasWorked board plan c log seat → c ≡ length logs → c < plan.cores → joined ≡ both seat rest → IsOpened board plan joined (logs ++ log ∷ [])
one_joined board plan c rest seat joined logs log i w at low is = subst (λ s. IsOpened board plan s (logs ++ log ∷ [])) (sym is) (record {
  opened = rest_joined board plan.cores Opened seat rest (both seat rest) i.opened w.on refl (ap (λ o. either o rest.conductor) w.of_core.conductor) (λ d from. no_other_book seat c d w.book w.of_core (λ e. absurd (omega (arith, low, from, e))));
  worked = worked_more plan logs log seat rest w.book i.worked (subst (λ n. IsCoreSeat seat n w.book) at w.of_core) (subst (λ n. IsWorked plan n log w.book) at w.worked);
})

pub turns_count : (logs : List LogModel) → length (turns_in logs) ≡ length logs
turns_count logs = length-map logs (λ (l : LogModel). l.turns)

-- ---- the end
pub all_held : (board : BoardModel) (plan : PlanModel) (rest : SeatModel) (logs : List LogModel) → IsOpened board plan rest logs → board.size ≡ size_of plan → length logs ≡ plan.cores → HasAll rest
all_held board plan rest logs i size many = record {
  cores = λ c low.
      let e = ap (λ (z : BoardSize). z.cores) size in
      let on = ap (λ (b : BoardModel). b.size.cores) i.opened.on in
      ap is_some (i.worked c (omega (arith, many, e, on, low))).1;
  conductor = ap is_some i.opened.conductor;
}

pub was_opened : (board : BoardModel) (plan : PlanModel) (rest : SeatModel) (logs : List LogModel) (did : Conductor) → IsOpened board plan rest logs → rest.conductor ≡ Some did → did ≡ Opened
was_opened board plan rest logs did i is = (let both_are : Some did ≡ Some Opened = sym is ∙ i.opened.conductor in cc)
