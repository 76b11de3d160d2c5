-- Sets of numbers, and sums, counts and products over their members below n. Everything that is counted here is counted by these.
use Rattle.std.specs.Prelude.{◌≡◌, ℕ, zero, suc, ◌+◌, ◌*◌, ◌<◌, Bool, true, false, cond, not, ◌&&◌, ◌||◌, List, [], ◌∷◌, ◌++◌, ◌==◌}

-- a set of numbers, as the test for membership
abbrev pub Set : Type 0
Set = ℕ → Bool

-- k where the test passes, else 0
abbrev pub on : Bool → ℕ → ℕ
on true k = k
on false k = 0

-- the sum of f over the members of X below n
unfoldable pub over : ℕ → Set → (ℕ → ℕ) → ℕ
over zero X f = 0
over (suc n) X f = over n X f + on (X n) (f n)

-- how many members X has below n
unfoldable pub size : ℕ → Set → ℕ
size n X = over n X (λ _. 1)

-- every number
abbrev pub all : Set
all _ = true

-- k where the test passes, else 1
abbrev pub factor : Bool → ℕ → ℕ
factor true k = k
factor false k = 1

-- the product of f over the members of X below n, 1 where there are none
unfoldable pub times : ℕ → Set → (ℕ → ℕ) → ℕ
times zero X f = 1
times (suc n) X f = times n X f * factor (X n) (f n)

-- the members of X below n, in rising order
unfoldable pub rising : ℕ → Set → List ℕ
rising zero X = []
rising (suc n) X = rising n X ++ cond (X n) (n ∷ []) []

-- the product of a list
abbrev pub product : List ℕ → ℕ
product [] = 1
product (x ∷ xs) = x * product xs

-- membership in a list
abbrev pub among : List ℕ → Set
among [] x = false
among (y ∷ ys) x = x == y || among ys x

-- the members of X that Y lacks
unfoldable pub minus : Set → Set → Set
minus X Y x = X x && not (Y x)

-- the members that X and Y share
unfoldable pub meet : Set → Set → Set
meet X Y x = X x && Y x

-- the members of X and those of Y
unfoldable pub union : Set → Set → Set
union X Y x = X x || Y x

-- X and one member more
unfoldable pub with : Set → ℕ → Set
with X v x = X x || x == v

-- the set of one member
abbrev pub single : ℕ → Set
single v x = x == v

-- X without one member
abbrev pub without : Set → ℕ → Set
without X v = minus X (single v)

-- each member of X below n is one of Y
abbrev pub Within : ℕ → Set → Set → Type 0
Within n X Y = (x : ℕ) → x < n → X x ≡ true → Y x ≡ true
