-- The records as they grow in one table.
use Rattle.std.proofs.Common.{◌≡◌, ℕ, ◌+◌, ◌-◌, ◌≤◌, List, drop, sym, refl, ap, ◌∙◌, subst, arith}
use Rattle.std.proofs.lemmas.List.{drop-drop}
use Rattle.records.specs.Tables.{Grown}
use Rattle.records.specs.declared.table.Records.{Records}

pub drop_further : {A : Type 0} (a b : List A) (n k : ℕ) → n ≤ k → drop n a ≡ drop n b → drop k a ≡ drop k b
drop_further a b n k h e =
    let whole : n + (k - n) ≡ k = omega arith in
    subst (λ x. drop x a ≡ drop x b) whole (sym (drop-drop (k - n) n a) ∙ ap (drop (k - n)) e ∙ drop-drop (k - n) n b)

pub grown_none : {V : Type 0} (r : Records V) → Grown r r
grown_none r = record { more = omega arith; room = refl; untouched = record { size = refl; rest = refl }; lent = refl }

pub grown_on : {V : Type 0} (before mid after : Records V) → Grown before mid → Grown mid after → Grown before after
grown_on before mid after one two = record {
  more = omega (arith, one.more, two.more);
  room = two.room ∙ one.room;
  untouched = record {
    size = two.untouched.size ∙ one.untouched.size;
    rest = two.untouched.rest ∙ drop_further mid.table.now before.table.now _ _ two.more one.untouched.rest;
  };
  lent = two.lent ∙ one.lent;
}
