-- The order of one class of rivals: 0 is none, 251 conflict, and any other number one broker.
use Rattle.std.specs.Prelude.{ℕ, ◌^◌, ◌<◌, Bool, cond, ◌||◌, ◌==◌}
use Rattle.orders.specs.Order.{Order}

abbrev pub none : ℕ
none = 0

abbrev pub conflict : ℕ
conflict = 251

-- conflict dominates all, all dominate none, and each broker itself
unfoldable pub class_dominance : ℕ → ℕ → Bool
class_dominance a b = a == conflict || b == none || a == b

-- the other number where one is neutral, and the extreme where two others differ
abbrev pub class_bound : ℕ → ℕ → ℕ → ℕ → ℕ
class_bound neutral extreme a b = cond (a == neutral) b (cond (b == neutral) a (cond (a == b) a extreme))

-- none adds nothing to the other, and two brokers are in conflict
abbrev pub class_join : ℕ → ℕ → ℕ
class_join = class_bound none conflict

-- what is below conflict is below the other, and two brokers have only none below both
abbrev pub class_meet : ℕ → ℕ → ℕ
class_meet = class_bound conflict none

abbrev pub class_order : Order ℕ
class_order = record { proper = λ n. n < 2 ^ 8; dominance = class_dominance; join = class_join; meet = class_meet; low = none; high = conflict }
