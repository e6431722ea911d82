-- The machine of a core.
use Rattle.std.proofs.Common.{◌≡◌, ◌<◌}
use Rattle.msrp_plan.proofs.Common.{ℕ, Some, sym, subst, slice_get, get_or, slice_get_read}
use Rattle.msrp_core.specs.Machine.{MachineModel}
use Rattle.msrp_sim.specs.Cores.{CoresModel, AreCores}

-- the machine of a core
pub has_machine : (m : CoresModel) (c : ℕ) (x : MachineModel) (now : CoresModel) → AreCores m → m ≡ now → c < now.plan.cores → x ≡ get_or m.machines c x → slice_get m.machines c ≡ Some x
has_machine m c x now cores is low value =
    let l : c < m.plan.cores = subst (λ (n : CoresModel). c < n.plan.cores) (sym is) low in
    slice_get_read m.machines m.plan.cores c x (sym cores.size) l value

-- it has ticks left
pub left : (m : CoresModel) (c : ℕ) (x : MachineModel) (now : CoresModel) → AreCores m → m ≡ now → c < now.plan.cores → x ≡ get_or m.machines c x → ((y : MachineModel) → slice_get now.machines c ≡ Some y → y.tick < now.plan.ticks) → x.tick < m.plan.ticks
left m c x now cores is low value ticks =
    let P : CoresModel → Type 0 = λ n. (y : MachineModel) → slice_get n.machines c ≡ Some y → y.tick < n.plan.ticks in
    subst P (sym is) ticks x (has_machine m c x now cores is low value)
