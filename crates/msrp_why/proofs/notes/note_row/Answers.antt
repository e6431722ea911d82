use Rattle.std.proofs.Common.{◌≡◌, ◌∷◌, ◌++◌, ◌∙◌}
use Rattle.msrp_plan.proofs.Common.{[], Some, ap, arith, eq-eqb, is_on, length, length-set, slice_get, slice_get_read, slice_get_within, refl}
use Rattle.msrp_why.proofs.Common.{IsNoted, ResourceNotes}
use Rattle.msrp_why.proofs.Noting.{noted_off, off_it, set_each}
use Rattle.msrp_why.proofs.notes.note_row.Goals as goal

pub returns-then-res-len : goal.returns-then-res-len
returns-then-res-len c = λ plan rows ok start number noted.
    let r = c.args.row.row in
    let res = c.in-Some.res in
    let items = c.args.resources.now.items in
    let one : ResourceNotes = c.index_mut.result.now in
    let on = ap (is_on res.0) c.in-Some.is ∙ eq-eqb res.0 res.0 refl in
    let size : c.len.result ≡ length items = c.len.ensures ∙ c.args.resources.now.ok.0 in
    let has : slice_get items res.0 ≡ Some one = slice_get_read items (length items) res.0 one refl (omega (arith, c.if-res-len.true, size)) c.index_mut.ensures.value in
    record {
      size = length-set items res.0 c.note.new.self ∙ noted.size;
      each = set_each (IsNoted (rows ++ r ∷ [])) items res.0 c.note.new.self (λ g n away is. noted_off rows r g n (off_it r res g c.in-Some.is away) (noted.each g n is))
          (c.note.ensures plan rows res.0 ok start on number (noted.each res.0 one has));
    }

pub returns-else-res-len : goal.returns-else-res-len
returns-else-res-len c = λ plan rows ok start number noted.
    let r = c.args.row.row in
    let items = c.args.resources.now.items in
    let size : c.len.result ≡ length items = c.len.ensures ∙ c.args.resources.now.ok.0 in
    record {
      size = noted.size;
      each = λ g n has. let within = slice_get_within items g n has in noted_off rows r g n (off_it r c.in-Some.res g c.in-Some.is (λ e. absurd (omega (arith, e, within, size, c.if-res-len.false)))) (noted.each g n has);
    }

pub returns-in_default : goal.returns-in_default
returns-in_default c = λ plan rows ok start number noted. record {
  size = noted.size;
  each = λ g n has. noted_off rows c.args.row.row g n (ap (is_on g) c.in_default.is) (noted.each g n has);
}
