-- What a write to a table does to the set or graph that it stands for.
use Rattle.std.proofs.Common.{◌≡◌, ℕ, ◌+◌, ◌<◌, ◌≤◌, min, Bool, true, false, ◌&&◌, ◌||◌, eqb, ltb, List, [], length, get_or, set, replicate, ap, ◌∙◌, inl, inr, arith, length-set}
use Rattle.std.proofs.Math.Path.{fun_ext}
use Rattle.std.proofs.lemmas.List.{get_or_past}
use Rattle.std.proofs.lemmas.Bool.{cases_lt}
use Rattle.std.proofs.lemmas.Bool.Decides.{nat_tests}
use Rattle.std.proofs.lemmas.Grind.{elements}
use Rattle.plan.specs.Sums.{Set, minus, union, with, without}
use Rattle.plan.proofs.Rows.{same_row}
use Rattle.std.proofs.Math.Bool.{or_assoc}
use Rattle.graph.specs.Marks.{marked, linked}
use Rattle.graph.specs.Split.{most_nodes, joined}

-- the members of X below n
unfoldable pub below : ℕ → Set → Set
below n X x = ltb x n && X x

-- whatever a test can answer on a number below n, it tells whether that is a member of X; `gives x r` is that the test can answer r on x
abbrev pub TestsFor : (ℕ → Bool → Type 0) → ℕ → Set → Type 0
TestsFor gives n X = (x : ℕ) (r : Bool) → x < n → gives x r → r ≡ X x

pub marked_past : (bs : List Bool) (x : ℕ) → length bs ≤ x → marked bs x ≡ false
marked_past bs x h = get_or_past bs x false h

pub marked_none : (n : ℕ) → marked (replicate n false) ≡ (λ _. false)
marked_none n = fun_ext (λ x. same_row n false x)

pub marked-with : (bs : List Bool) (x : ℕ) → x < length bs → marked (set bs x true) ≡ with (marked bs) x
unfolding with
marked-with bs x h = fun_ext (λ y. grind (arith, nat_tests, elements))

pub marked-without : (bs : List Bool) (x : ℕ) → x < length bs → marked (set bs x false) ≡ without (marked bs) x
unfolding minus
marked-without bs x h = fun_ext (λ y. grind (arith, nat_tests, elements))

-- nothing goes where nothing is
pub without_absent : (X : Set) (x : ℕ) → X x ≡ false → X ≡ without X x
unfolding minus
without_absent X x h = fun_ext (λ y. grind (arith, nat_tests))

pub linked_past_column : (rows : List (List Bool)) (x y : ℕ) → length (get_or rows x []) ≤ y → linked rows x y ≡ false
linked_past_column rows x y h = get_or_past (get_or rows x []) y false h

pub linked_past_row : (rows : List (List Bool)) (x y : ℕ) → length rows ≤ x → linked rows x y ≡ false
linked_past_row rows x y h = ap (λ row. get_or row y false) (get_or_past rows x [] h)

pub linked_none : (n x y : ℕ) → linked (replicate n (replicate n false)) x y ≡ false
linked_none n x y = grind (arith, elements, same_row n false y, linked_past_row (replicate n (replicate n false)) x y)

-- a mark in one row leaves every row as long as it was
pub row_length_write : (rows : List (List Bool)) (x y a : ℕ) → x < length rows
    → length (get_or (set rows x (set (get_or rows x []) y true)) a []) ≡ length (get_or rows a [])
row_length_write rows x y a lx = grind (arith, elements)

-- one mark more, in one row
pub linked_write : (rows : List (List Bool)) (x y a b : ℕ) → x < length rows → y < length (get_or rows x [])
    → linked (set rows x (set (get_or rows x []) y true)) a b ≡ (linked rows a b || (eqb a x && eqb b y))
linked_write rows x y a b lx ly = grind (arith, nat_tests, elements)

-- one edge more, by a mark in the row of each of its ends
pub linked_join : (rows : List (List Bool)) (n x y : ℕ) → length rows ≡ n → ((a : ℕ) → a < n → length (get_or rows a []) ≡ n) → x < n → y < n
    → linked (set (set rows x (set (get_or rows x []) y true)) y (set (get_or (set rows x (set (get_or rows x []) y true)) y []) x true))
    ≡ joined (linked rows) x y
unfolding joined
linked_join rows n x y tall wide lx ly =
    let rows' : List (List Bool) = set rows x (set (get_or rows x []) y true) in
    let tall' : length rows' ≡ n = length-set rows x (set (get_or rows x []) y true) ∙ tall in
    let long : length (get_or rows' y []) ≡ n = row_length_write rows x y y (omega arith) ∙ wide y ly in
    fun_ext (λ a. fun_ext (λ b.
    linked_write rows' y x a b (omega arith) (omega arith)
    ∙ ap (λ t. t || (eqb a y && eqb b x)) (linked_write rows x y a b (omega arith) (omega (arith, wide x lx)))
    ∙ or_assoc (linked rows a b) (eqb a x && eqb b y) (eqb a y && eqb b x)))

-- A set that is filled in rising order with what a test accepts: the next number is accepted, or not.
module _ (C D R : Set) (i : ℕ) (so_far : (x : ℕ) → C x ≡ (ltb x i && R x)) where
  pub filled_yes : R i ≡ true → D ≡ with C i → (x : ℕ) → D x ≡ (ltb x (i + 1) && R x)
  unfolding with
  filled_yes here e x = ap (λ X. X x) e ∙ grind (arith, nat_tests, so_far x)

  pub filled_no : R i ≡ false → D ≡ C → (x : ℕ) → D x ≡ (ltb x (i + 1) && R x)
  filled_no gone e x = ap (λ X. X x) e ∙ grind (arith, nat_tests, so_far x)

-- all numbers that the test accepts are below i
pub filled_all : (C R : Set) (i : ℕ) → ((x : ℕ) → C x ≡ (ltb x i && R x)) → ((x : ℕ) → R x ≡ true → x < i) → C ≡ R
filled_all C R i so_far below = fun_ext (λ x. so_far x ∙ grind (arith, nat_tests, below x))

pub filled_none : (C R : Set) → C ≡ (λ _. false) → (x : ℕ) → C x ≡ (ltb x 0 && R x)
filled_none C R e x = ap (λ X. X x) e ∙ grind (arith, nat_tests)

-- nothing is left out below a number that all members are below
pub below-all : (n : ℕ) (X : Set) → ((x : ℕ) → X x ≡ true → x < n) → below n X ≡ X
unfolding below
below-all n X within = fun_ext (λ x. grind (arith, nat_tests, within x))

-- a set of what a test may answer is each set that the test tells
pub made_by_test : (gives : ℕ → Bool → Type 0) (n : ℕ) (C X : Set) → ((x : ℕ) → x < min n most_nodes → gives x (C x))
    → ((x : ℕ) → min n most_nodes ≤ x → C x ≡ false) → TestsFor gives n X → C ≡ below (min n most_nodes) X
unfolding below
made_by_test gives n C X tested beyond tells =
    fun_ext (λ x.
    elim (cases_lt x (min n most_nodes)) [
      | inl lt ↦ tells x (C x) (omega arith) (tested x lt) ∙ grind (arith, nat_tests)
      | inr past ↦ beyond x past ∙ grind (arith, nat_tests)
    ])

-- A set to which the members of Y are added in rising order.
module _ (X Y : Set) where
  pub joined_none : (y : ℕ) → X y ≡ (X y || (ltb y 0 && Y y))
  joined_none y = grind (arith, nat_tests)

  module _ (C D : Set) (i : ℕ) (so_far : (y : ℕ) → C y ≡ (X y || (ltb y i && Y y))) where
    pub joined_yes : Y i ≡ true → D ≡ with C i → (y : ℕ) → D y ≡ (X y || (ltb y (i + 1) && Y y))
    unfolding with
    joined_yes here e y = ap (λ Z. Z y) e ∙ grind (arith, nat_tests, so_far y)

    pub joined_no : Y i ≡ false → D ≡ C → (y : ℕ) → D y ≡ (X y || (ltb y (i + 1) && Y y))
    joined_no gone e y = ap (λ Z. Z y) e ∙ grind (arith, nat_tests, so_far y)

  pub joined-all : (C : Set) (i : ℕ) → ((y : ℕ) → C y ≡ (X y || (ltb y i && Y y))) → ((y : ℕ) → i ≤ y → Y y ≡ false) → C ≡ union X Y
  unfolding union
  joined-all C i so_far none = fun_ext (λ y. so_far y ∙ grind (arith, nat_tests, none y))
