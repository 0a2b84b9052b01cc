-- The classes of bytes.
use Rattle.std.specs.Prelude.{ℕ, Bool, cond, ◌&&◌, ◌==◌, nat_le}
use Rattle.text.specs.declared.class.Class.{Class}
use Rattle.text.specs.declared.class.Class.TheVariants.{Opening, Closing, Space, LineFeed, Digit, Letter, Other}

-- Whether a byte lies from one to another.
abbrev pub between : ℕ → ℕ → ℕ → Bool
between low high b = nat_le low b && nat_le b high

-- The class of a byte: ( is 40, ) is 41, a space is 32, a line feed 10, digits go from 48 to 57, small letters from 97 to 122.
abbrev pub class_of : ℕ → Class
class_of b = cond (b == 40) Opening (cond (b == 41) Closing (cond (b == 32) Space (cond (b == 10) LineFeed (cond (between 48 57 b) Digit (cond (between 97 122 b) Letter Other)))))

-- The place of a class in the order of its cases, by which classes are told apart.
abbrev pub order_of : Class → ℕ
order_of Opening = 0
order_of Closing = 1
order_of Space = 2
order_of LineFeed = 3
order_of Digit = 4
order_of Letter = 5
order_of Other = 6

-- Whether a byte is of a class.
abbrev pub of_class : Class → ℕ → Bool
of_class k b = order_of (class_of b) == order_of k
