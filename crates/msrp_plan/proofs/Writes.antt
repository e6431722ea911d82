-- Facts on bytes that a writer is known to hold.
use Rattle.msrp_plan.specs.Common.{ℕ, List, [], length, take, drop, Option, Bool, true, false, Wrote, WroteSome}
use Rattle.msrp_plan.specs.declared.bytes.Sink.{Sink}
use Rattle.std.proofs.Common.{◌≡◌, ◌+◌, ◌-◌, ◌≤◌, ◌++◌, length-drop, refl, sym, append_assoc, ◌∙◌, arith}
use Rattle.std.specs.Io.KnownBytes.{Appends}
use Rattle.std.proofs.KnownBytes.{Appends-nil, Appends-trans}
use Rattle.std.proofs.lemmas.List.{take-append-drop, take_all}
use Rattle.std.proofs.Math.Seq.{take-add}
use Rattle.msrp_plan.specs.Bytes.{AppendsPrefix}
use Rattle.std.proofs.lemmas.Bool.{false≢true}

-- the first n bytes of a text are a first part of it
pub appends-part : (a b : Option (List ℕ)) (n : ℕ) (text : List ℕ) → Appends a b (take n text) → AppendsPrefix a b text
appends-part a b n text h = (take n text, drop n text, sym (take-append-drop n text), h)

-- the first n bytes of a text, and then the first m of the rest
pub appends-next : (a b c : Option (List ℕ)) (n m : ℕ) (text : List ℕ) → Appends a b (take n text) → Appends b c (take m (drop n text)) → Appends a c (take (n + m) text)
appends-next a b c n m text p q = rw (take-add n m text) (Appends-trans a b c _ _ p q)

-- as many bytes as the text has, or more, are all of it
pub appends-whole : (a b : Option (List ℕ)) (n : ℕ) (text : List ℕ) → length text ≤ n → Appends a b (take n text) → Appends a b text
appends-whole a b n text h p = rw (take_all n text h) at p

-- what a slice from a place reads as
pub take-rest : (i : ℕ) (text : List ℕ) → take (length text - i) (drop i text) ≡ drop i text
take-rest i text = take_all (length text - i) (drop i text) (omega (arith, length-drop i text))

-- what fits a rest fits its length
pub rest-fits : (n i : ℕ) (text : List ℕ) → n ≤ length (take (length text - i) (drop i text)) → n ≤ length text - i
rest-fits n i text h = let e : take (length text - i) (drop i text) ≡ drop i text = take-rest i text in
    omega (arith, rw e at h, length-drop i text)

-- a first part of a text is one of a longer text
prefix-longer : (a b : Option (List ℕ)) (x y : List ℕ) → AppendsPrefix a b x → AppendsPrefix a b (x ++ y)
prefix-longer a b x y h = (h.0, h.1 ++ y, rw h.2 (append_assoc h.0 h.1 y), h.3)

-- a text and then a first part of another
prefix-after : (a b c : Option (List ℕ)) (x y : List ℕ) → Appends a b x → AppendsPrefix b c y → AppendsPrefix a c (x ++ y)
prefix-after a b c x y p h = (x ++ h.0, h.1, rw h.2 (sym (append_assoc x h.0 h.1)), Appends-trans a b c x h.0 p h.3)

-- by whether the first of two texts failed
part-more : {W : Type 0} (contents : W → Option (List ℕ)) (a b c : Sink W) (x y : List ℕ) → Wrote contents a b x → Wrote contents b c y → a.failed ≡ false → c.failed ≡ true
    → (f : Bool) → f ≡ b.failed → AppendsPrefix (contents a.inner) (contents c.inner) (x ++ y)
part-more contents a b c x y p q f g true e = rw (q.stays (sym e)) (prefix-longer _ _ x y (p.part f (sym e)))
part-more contents a b c x y p q f g false e = prefix-after _ _ _ x y (p.whole (sym e)).1 (q.part (sym e) g)

-- two texts, one after the other
pub wrote-more : {W : Type 0} (contents : W → Option (List ℕ)) (a b c : Sink W) (x y : List ℕ) → Wrote contents a b x → Wrote contents b c y → Wrote contents a c (x ++ y)
wrote-more contents a b c x y p q = record {
  stays = λ f. let e = p.stays f in q.stays (rw e f) ∙ e;
  whole = λ f. let v = q.whole f in let u = p.whole v.0 in (u.0, Appends-trans _ _ _ x y u.1 v.1);
  part = λ f g. part-more contents a b c x y p q f g b.failed refl;
}

-- nothing is written of an empty text
pub wrote-nothing : {W : Type 0} (contents : W → Option (List ℕ)) (a : Sink W) → Wrote contents a a []
wrote-nothing contents a = record {
  stays = λ f. refl;
  whole = λ f. (f, Appends-nil _);
  part = λ f g. absurd (false≢true (sym f ∙ g));
}

-- what took a certain text took some text
pub wrote-some : {W : Type 0} (contents : W → Option (List ℕ)) (a b : Sink W) (x : List ℕ) → Wrote contents a b x → WroteSome contents a b
wrote-some contents a b x p = (x, p)

-- some text, and then some text
pub some-more : {W : Type 0} (contents : W → Option (List ℕ)) (a b c : Sink W) → WroteSome contents a b → WroteSome contents b c → WroteSome contents a c
some-more contents a b c p q = (p.0 ++ q.0, wrote-more contents a b c p.0 q.0 p.1 q.1)

-- a sink that took nothing took some text, the empty one
pub some-nothing : {W : Type 0} (contents : W → Option (List ℕ)) (a : Sink W) → WroteSome contents a a
some-nothing contents a = ([], wrote-nothing contents a)
