-- The lines with which a file begins, and how many lines it is to have.
use Rattle.std.specs.Prelude.{◌≡◌, ℕ, ◌+◌, ◌*◌, List, [], ◌∷◌, ◌++◌}
use Rattle.taskfile.specs.declared.keys.Key.{Key}
use Rattle.taskfile.specs.Entries.{Entry, number, members, line_of, Good}
use Rattle.taskfile.specs.Keys.{after}

-- the lines of these entries, of which the first has the key k
abbrev pub text_from : Key → List Entry → List ℕ
text_from k [] = []
text_from k (e ∷ es) = line_of k e ++ text_from (after k) es

-- the key of the line that follows them
abbrev pub key_from : Key → List Entry → Key
key_from k [] = k
key_from k (e ∷ es) = key_from (after k) es

abbrev pub AllGood : ℕ → Key → List Entry → Type 0
AllGood room k [] = Unit {0}
AllGood room k (e ∷ es) = Good room k e × AllGood room (after k) es

-- from the key k on, src begins with the lines of the entries es, which are all good, and then comes rest
pub record Front (room : ℕ) (k : Key) (src : List ℕ) (es : List Entry) (rest : List ℕ) : Type 0 where
  pub text : src ≡ text_from k es ++ rest
  pub good : AllGood room k es

-- the second line tells how many moves there are
abbrev pub announced : List Entry → ℕ
announced [] = 0
announced (e ∷ []) = 0
announced (e ∷ number n ∷ es) = n
announced (e ∷ members ns ∷ es) = 0

-- how many lines a file that begins with these entries is to have
abbrev pub due : List Entry → ℕ
due es = 4 + 5 * announced es
