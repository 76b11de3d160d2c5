-- The length of a table: its bound, and its product driver by driver.
use Rattle.std.proofs.Common.{◌≡◌, ℕ, zero, suc, ◌+◌, ◌*◌, ◌^◌, ◌<◌, ◌≤◌, List, [], ◌∷◌, ◌++◌, map, length, get_or, take, sym, ap, ◌∙◌, subst, mul_assoc, mul_comm, mul-le-mul, arith, length-take}
use Rattle.std.proofs.Math.Nat.{pow-succ', pow-le-pow_right}
use Rattle.std.specs.List.{AllByRecursion as All}
use Rattle.std.proofs.ByRecursion.{All-from_get_or, All-take, All-map}
use Rattle.std.proofs.lemmas.List.{map_push, map_more, length-map, take-take}
use Rattle.plan.specs.Limits.{most_classes, most_drivers}
use Rattle.plan.specs.Sums.{over, product}
use Rattle.sources.specs.Layout.{classes_of, driver_count_of, driver_byte, drivers_of, length_of, earlier_lengths}
use Rattle.sources.specs.LayoutLaws.{driver_bytes, length_drivers, get_or_drivers, earlier_lengths_more}
use Rattle.sources.specs.Passed.{RecordPassed, RecordsPassed}

-- a table reads at most four measures of at most eight classes
abbrev pub most_length : ℕ
most_length = 4096

-- the most choices of classes of the drivers of a measure
abbrev pub most_choices : ℕ
most_choices = 512

product_push : (xs : List ℕ) (x : ℕ) → product (xs ++ x ∷ []) ≡ product xs * x
product_push [] x = omega arith
product_push (y ∷ xs) x = ap (λ p. y * p) (product_push xs x) ∙ sym (mul_assoc y (product xs) x)

product_bounded : (xs : List ℕ) → All (λ x. x ≤ most_classes) xs → product xs ≤ most_classes ^ length xs
product_bounded [] small = omega arith
product_bounded (x ∷ xs) small =
    subst (λ (p : ℕ). x * product xs ≤ p) (sym (pow-succ' most_classes (length xs))) (mul-le-mul small.0 (product_bounded xs small.1))

-- the product of the classes of the first k drivers of m
abbrev pub classes_product : List ℕ → ℕ → ℕ → ℕ
classes_product bs m k = product (map (classes_of bs) (take k (drivers_of bs m)))

-- one driver more
pub classes_product_more : (bs : List ℕ) (m k : ℕ) → k < driver_count_of bs m → k < most_drivers → classes_product bs m (k + 1) ≡ classes_product bs m k * classes_of bs (driver_byte bs m k)
classes_product_more bs m k used few =
    let within : k < length (drivers_of bs m) = omega (arith, length_drivers bs m) in
    ap product (map_more (classes_of bs) (drivers_of bs m) k 0 within)
    ∙ product_push (map (classes_of bs) (take k (drivers_of bs m))) (classes_of bs (get_or (drivers_of bs m) k 0))
    ∙ ap (λ d. classes_product bs m k * classes_of bs d) (get_or_drivers bs m k used few)

-- with all drivers, the product is the table's length but for the own classes
pub classes_product-all : (bs : List ℕ) (m : ℕ) → length_of bs m ≡ classes_product bs m (driver_count_of bs m) * classes_of bs m
unfolding length_of
classes_product-all bs m =
    ap product (map_push (classes_of bs) (drivers_of bs m) m)
    ∙ product_push (map (classes_of bs) (drivers_of bs m)) (classes_of bs m)
    ∙ ap (λ ds. product (map (classes_of bs) ds) * classes_of bs m) (sym (take-take (driver_count_of bs m) (driver_count_of bs m) (driver_bytes bs m) (omega arith)))

module _ (bs : List ℕ) (m : ℕ) (passed : RecordsPassed bs (m + 1)) where
  own : RecordPassed bs m
  own = passed m (omega arith)

  -- a driver of m comes before m, so its classes are within their limit too
  drivers_small : All (λ d. classes_of bs d ≤ most_classes) (drivers_of bs m)
  drivers_small =
      All-from_get_or (λ d. classes_of bs d ≤ most_classes) (drivers_of bs m) 0
      (λ k h.
      let used : k < driver_count_of bs m = omega (arith, length_drivers bs m) in
      let few : k < most_drivers = omega (arith, own.few_drivers) in
      let lower : driver_byte bs m k < m = own.lower_driver k used in
      subst (λ (d : ℕ). classes_of bs d ≤ most_classes) (sym (get_or_drivers bs m k used few)) (passed (driver_byte bs m k) (omega arith)).few_classes)

  pub classes_product_bounded : (k : ℕ) → classes_product bs m k ≤ most_choices
  classes_product_bounded k =
      let xs : List ℕ = map (classes_of bs) (take k (drivers_of bs m)) in
      let small : All (λ x. x ≤ most_classes) xs =
      All-map (λ x. x ≤ most_classes) (classes_of bs) (take k (drivers_of bs m)) (All-take (λ d. classes_of bs d ≤ most_classes) k (drivers_of bs m) drivers_small) in
      let few : length xs ≤ most_drivers =
      omega (arith, length-map (take k (drivers_of bs m)) (classes_of bs), length-take k (drivers_of bs m), length_drivers bs m) in
      let power : most_classes ^ length xs ≤ most_classes ^ most_drivers = pow-le-pow_right {n = most_classes} (omega arith) few in
      omega (arith, product_bounded xs small, power)

  pub length_bounded : length_of bs m ≤ most_length
  length_bounded =
      let bound : classes_product bs m (driver_count_of bs m) * classes_of bs m ≤ most_choices * most_classes =
      mul-le-mul (classes_product_bounded (driver_count_of bs m)) own.few_classes in
      omega (arith, bound, classes_product-all bs m)

pub earlier_lengths_bounded : (bs : List ℕ) (m : ℕ) → RecordsPassed bs m → earlier_lengths bs m ≤ most_length * m
unfolding earlier_lengths over
earlier_lengths_bounded bs zero passed = omega arith
earlier_lengths_bounded bs (suc m) passed =
    let before : earlier_lengths bs m ≤ most_length * m = earlier_lengths_bounded bs m (λ k h. passed k (omega arith)) in
    let here : length_of bs m ≤ most_length = length_bounded bs m (λ k h. passed k (omega arith)) in
    omega (arith, before, here, earlier_lengths_more bs m)

-- what the loop over the drivers does: it begins with the own classes, and each turn multiplies by the classes of one driver more
pub table_step : (bs : List ℕ) (m k length-so_far : ℕ) → k < driver_count_of bs m → k < most_drivers → length-so_far ≡ classes_product bs m k * classes_of bs m → length-so_far * classes_of bs (driver_byte bs m k) ≡ classes_product bs m (k + 1) * classes_of bs m
table_step bs m k sofar used few inv =
    let c : ℕ = classes_of bs (driver_byte bs m k) in
    ap (λ n. n * c) inv
    ∙ mul_assoc (classes_product bs m k) (classes_of bs m) c
    ∙ ap (λ n. classes_product bs m k * n) (mul_comm (classes_of bs m) c)
    ∙ sym (mul_assoc (classes_product bs m k) c (classes_of bs m))
    ∙ ap (λ n. n * classes_of bs m) (sym (classes_product_more bs m k used few))

-- what the loop holds times one class number more stays small
pub table_step_small : (bs : List ℕ) (m k length-so_far : ℕ) → RecordsPassed bs (m + 1) → length-so_far ≡ classes_product bs m k * classes_of bs m → (c : ℕ) → c < 256 → length-so_far * c ≤ most_length * 256
table_step_small bs m k sofar passed inv c small =
    let bound : classes_product bs m k * classes_of bs m ≤ most_choices * most_classes =
    mul-le-mul (classes_product_bounded bs m passed k) (passed m (omega arith)).few_classes in
    mul-le-mul {n₁ = sofar} {m₁ = c} {n₂ = most_length} {m₂ = 256} (omega arith) (omega arith)
