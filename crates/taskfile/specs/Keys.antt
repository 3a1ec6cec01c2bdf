-- The keys: their order, what a line of each begins with, and which numbers it may have.
use Rattle.std.specs.Prelude.{ℕ, Bool, true, false, List, codes}
use Rattle.taskfile.specs.declared.keys.Key.{Key}
use Rattle.taskfile.specs.declared.keys.Key.TheVariants.{Facts, Moves, Start, Goal, Group, Price, Needs, Makes, Breaks}

-- the key of the next line: after the heading one move follows another
abbrev pub after : Key → Key
after Facts = Moves
after Moves = Start
after Start = Goal
after Goal = Group
after Group = Price
after Price = Needs
after Needs = Makes
after Makes = Breaks
after Breaks = Group

abbrev pub lead : Key → List ℕ
lead Facts = codes "facts="
lead Moves = codes "moves="
lead Start = codes "start="
lead Goal = codes "goal="
lead Group = codes "group="
lead Price = codes "price="
lead Needs = codes "needs="
lead Makes = codes "makes="
lead Breaks = codes "breaks="

-- whether the value is one number, and not a set
abbrev pub one_number : Key → Bool
one_number Facts = true
one_number Moves = true
one_number Start = false
one_number Goal = false
one_number Group = true
one_number Price = true
one_number Needs = false
one_number Makes = false
one_number Breaks = false

-- the range of the number, or of each fact of the set
abbrev pub lowest : Key → ℕ
lowest Facts = 1
lowest Moves = 0
lowest Start = 0
lowest Goal = 0
lowest Group = 0
lowest Price = 0
lowest Needs = 0
lowest Makes = 0
lowest Breaks = 0

abbrev pub highest : Key → ℕ
highest Facts = 64
highest Moves = 1024
highest Start = 63
highest Goal = 63
highest Group = 7
highest Price = 65535
highest Needs = 63
highest Makes = 63
highest Breaks = 63
