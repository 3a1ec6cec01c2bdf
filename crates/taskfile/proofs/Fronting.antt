-- Lines read one after another.
use Rattle.std.proofs.Common.{◌≡◌, ℕ, ◌+◌, ◌<◌, List, [], ◌∷◌, ◌++◌, length, sym, refl, ap, ◌∙◌, subst, append_assoc, arith}
use Rattle.std.proofs.lemmas.List.{append-nil, length-append}
use Rattle.taskfile.specs.declared.keys.Key.{Key}
use Rattle.taskfile.specs.declared.keys.Key.TheVariants.{Moves}
use Rattle.taskfile.specs.declared.misread.Misread.{Misread}
use Rattle.taskfile.specs.declared.reader.Reader.{Reader}
use Rattle.taskfile.specs.Entries.{Entry, number, members, line_of, Fits}
use Rattle.taskfile.specs.Faults.{Faulty}
use Rattle.taskfile.specs.Fronts.{text_from, key_from, AllGood, Front}
use Rattle.taskfile.specs.Keys.{after}
use Rattle.taskfile.specs.Steps.{Took, Stops, TookAll, StopsIn, StopsBefore}

pub text_append : (k : Key) (es fs : List Entry) → text_from k (es ++ fs) ≡ text_from k es ++ text_from (key_from k es) fs
text_append k [] fs = refl
text_append k (e ∷ es) fs = ap (λ t. line_of k e ++ t) (text_append (after k) es fs) ∙ sym (append_assoc (line_of k e) (text_from (after k) es) _)

pub key_append : (k : Key) (es fs : List Entry) → key_from k (es ++ fs) ≡ key_from (key_from k es) fs
key_append k [] fs = refl
key_append k (e ∷ es) fs = key_append (after k) es fs

pub good_append : (room : ℕ) (k : Key) (es fs : List Entry) → AllGood room k es → AllGood room (key_from k es) fs → AllGood room k (es ++ fs)
good_append room k [] fs a b = b
good_append room k (e ∷ es) fs a b = (a.0, good_append room (after k) es fs a.1 b)

pub front_append : (room : ℕ) (k : Key) (src mid rest : List ℕ) (es fs : List Entry) → Front room k src es mid → Front room (key_from k es) mid fs rest → Front room k src (es ++ fs) rest
front_append room k src mid rest es fs a b = record {
  text = a.text ∙ ap (λ t. text_from k es ++ t) b.text ∙ sym (append_assoc (text_from k es) _ rest) ∙ ap (λ t. t ++ rest) (sym (text_append k es fs));
  good = good_append room k es fs a.good b.good;
}

pub front_none : (room : ℕ) (k : Key) (src : List ℕ) → Front room k src [] src
front_none room k src = record { text = refl; good = tt }

module _ (room : ℕ) (a b : Reader) where
  -- the lines es, and then more
  pub all_then : (d : Reader) (es fs : List Entry) → TookAll room a es b → TookAll room b fs d → TookAll room a (es ++ fs) d
  all_then d es fs s t = record {
    front = front_append room a.expected _ _ _ es fs s.front (subst (λ k. Front room k b.rest.now fs d.rest.now) s.next t.front);
    next = t.next ∙ ap (λ k. key_from k fs) s.next ∙ sym (key_append a.expected es fs);
    count = omega (arith, s.count, t.count, length-append es fs);
  }

  pub all_stops : (most : ℕ) (m : Misread) (es fs : List Entry) → TookAll room a es b → StopsIn room b most m fs → StopsIn room a (length es + most) m (es ++ fs)
  all_stops most m es fs s t = record {
    rest = t.rest;
    front = front_append room a.expected _ _ _ es fs s.front (subst (λ k. Front room k b.rest.now fs t.rest) s.next t.front);
    few = omega (arith, t.few, length-append es fs);
    flaw = subst (λ k. Faulty room k t.rest m.flaw) (ap (λ k. key_from k fs) s.next ∙ sym (key_append a.expected es fs)) t.flaw;
    line = omega (arith, s.count, t.line, length-append es fs);
  }

  pub one : (e : Entry) → Took a e b → Fits room a.expected e → TookAll room a (e ∷ []) b
  one e t f = record {
    front = record { text = t.text ∙ ap (λ l. l ++ b.rest.now) (sym (append-nil (line_of a.expected e))); good = (record { formed = t.formed; inside = t.inside; fits = f }, tt) };
    next = t.moved.next;
    count = t.moved.count;
  }

-- no line yet
pub took_none : (room : ℕ) (a : Reader) → TookAll room a [] a
took_none room a = record { front = front_none room a.expected a.rest.now; next = refl; count = omega arith }

-- only the second line must fit the list
fits_other : (room : ℕ) (k : Key) (e : Entry) → (k ≡ Moves → ⊥) → Fits room k e
fits_other room k (number n) other = λ h. absurd (other h)
fits_other room k (members ns) other = tt

module _ {room : ℕ} {a b : Reader} {k : Key} (key : a.expected ≡ k) {es : List Entry} (s : TookAll room a es b) where
  -- the lines es, and one more
  pub and_one : {d : Reader} {e : Entry} → Took b e d → (key_from k es ≡ Moves → ⊥) → TookAll room a (es ++ e ∷ []) d
  and_one {d = d} {e = e} t other =
      all_then room a b d es (e ∷ []) s (one room b d e t (fits_other room b.expected e (λ h. other (ap (λ x. key_from x es) (sym key) ∙ sym s.next ∙ h))))

  -- the lines es, and a stop
  pub stops_here : {most : ℕ} {m : Misread} → Faulty room b.expected b.rest.now m.flaw → m.line ≡ b.line → length es < most → StopsBefore room a most m
  stops_here {m = m} f l h = (
    es,
    record {
      rest = b.rest.now;
      front = s.front;
      few = h;
      flaw = subst (λ x. Faulty room x b.rest.now m.flaw) s.next f;
      line = omega (arith, s.count);
    },
  )

  pub stops_now : {most : ℕ} {m : Misread} → Stops b m → length es < most → StopsBefore room a most m
  stops_now t h = stops_here (t.flaw room) t.line h
