-- Texts that were gathered, one after the other.
use Rattle.std.proofs.Common.{◌≡◌, ◌++◌, ◌∙◌}
use Rattle.msrp_plan.proofs.Common.{ℕ, List, [], Option, ap, sym, append_assoc, append-nil, Wrote, wrote-more}
use Rattle.msrp_plan.specs.declared.bytes.Sink.{Sink}
use Rattle.msrp_trace.specs.Gathering.{Gathers}

-- two texts
pub gathers-more : {W : Type 0} (contents : W → Option (List ℕ)) (p q r : List ℕ) (a b c : Sink W) (x y : List ℕ) → Gathers contents p a q b x → Gathers contents q b r c y → Gathers contents p a r c (x ++ y)
gathers-more contents p q r a b c x y g h = record {
  written = g.written ++ h.written;
  wrote = wrote-more contents a b c g.written h.written g.wrote h.wrote;
  rest = sym (append_assoc p x y) ∙ (ap (λ t. t ++ y) g.rest ∙ (append_assoc g.written q y ∙ (ap (λ t. g.written ++ t) h.rest ∙ sym (append_assoc g.written h.written r))));
}

-- a text that a page takes once it has room
pub gathers-on : {W : Type 0} (contents : W → Option (List ℕ)) (p q r : List ℕ) (a b : Sink W) (x : List ℕ) → Gathers contents p a q b [] → r ≡ q ++ x → Gathers contents p a r b x
gathers-on contents p q r a b x g e = record {
  written = g.written;
  wrote = g.wrote;
  rest = ap (λ t. t ++ x) (sym (append-nil p) ∙ g.rest) ∙ (append_assoc g.written q x ∙ ap (λ t. g.written ++ t) (sym e));
}

-- the same text in other words
pub gathers-as : {W : Type 0} (contents : W → Option (List ℕ)) (p q : List ℕ) (a b : Sink W) (x y : List ℕ) → x ≡ y → Gathers contents p a q b x → Gathers contents p a q b y
gathers-as contents p q a b x y e h = rw (← e) h

-- what was gathered from the first on, once the page is written too
pub gathers-all : {W : Type 0} (contents : W → Option (List ℕ)) (page : List ℕ) (a b c : Sink W) (text : List ℕ) → Gathers contents [] a page b text → Wrote contents b c page → Wrote contents a c text
gathers-all contents page a b c text g w = rw (g.rest) (wrote-more contents a b c g.written page g.wrote w)
