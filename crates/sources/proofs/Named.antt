-- What `contains` answers, in the words of `among`, and the earlier driver bytes as a part of the card.
use Rattle.std.proofs.Common.{◌≡◌, ℕ, ◌+◌, ◌-◌, ◌<◌, ◌≤◌, Bool, eqb, List, length, get_or, take, drop, sym, refl, ap, ◌∙◌, arith, length-drop, length-take, get_or-drop, get_or-take}
use Rattle.std.specs.List.{IsAnyAnswer}
use Rattle.std.proofs.lemmas.List.Elements.{contains_decides}
use Rattle.std.proofs.lemmas.List.{ext_get_or}
use Rattle.std.proofs.lemmas.Bool.Decides.{same_from_decides, Decides-by_or, Decides-like, Decides-eqb}
use Rattle.plan.specs.Limits.{most_drivers}
use Rattle.plan.specs.Sums.{among}
use Rattle.sources.specs.Layout.{record_length, record_at, driver_count_of, driver_byte, drivers_of}
use Rattle.sources.specs.LayoutLaws.{length_drivers, get_or_drivers}

pub contains_among : (xs : List ℕ) (x : ℕ) (r : Bool) → IsAnyAnswer (λ y t. eqb y x ≡ t) xs r → r ≡ among xs x
contains_among xs x r h =
    same_from_decides r (among xs x)
    (contains_decides eqb Decides-eqb xs x r h)
    (Decides-by_or (λ y. eqb x y) (λ y. y ≡ x) (λ ys. among ys x) (λ y. Decides-like (eqb x y) sym sym (Decides-eqb x y)) refl (λ _ _. refl) xs)

pub earlier_driver_bytes : (bs : List ℕ) (m k : ℕ) → k < driver_count_of bs m → k < most_drivers → record_at m + record_length ≤ length bs → take k (drop (record_at m + 4) bs) ≡ take k (drivers_of bs m)
earlier_driver_bytes bs m k used few within =
    let left : length (take k (drop (record_at m + 4) bs)) ≡ k = simp (length-take, length-drop) (omega arith) in
    let right : length (take k (drivers_of bs m)) ≡ k = omega (arith, length-take k (drivers_of bs m), length_drivers bs m) in
    ext_get_or 0 (take k (drop (record_at m + 4) bs)) (take k (drivers_of bs m)) (left ∙ sym right)
    (λ i h.
    let below : i < k = omega arith in
    get_or-take k (drop (record_at m + 4) bs) i 0 below
    ∙ get_or-drop (record_at m + 4) bs i 0
    ∙ sym (get_or_drivers bs m i (omega arith) (omega arith))
    ∙ sym (get_or-take k (drivers_of bs m) i 0 below))

-- whether the earlier driver bytes contain the one at position k, where the record begins at `first`
pub named_before : (bs : List ℕ) (m k first : ℕ) (r : Bool) → first ≡ record_at m → k < driver_count_of bs m → k < most_drivers → record_at m + record_length ≤ length bs → IsAnyAnswer (λ y t. eqb y (get_or bs (first + 4 + k) 0) ≡ t) (take (first + 4 + k - (first + 4)) (drop (first + 4) bs)) r → r ≡ among (take k (drivers_of bs m)) (driver_byte bs m k)
named_before bs m k first r at used few within h =
    let size : first + 4 + k - (first + 4) ≡ k = omega arith in
    let part : take (first + 4 + k - (first + 4)) (drop (first + 4) bs) ≡ take k (drivers_of bs m) =
    ap (λ n. take n (drop (first + 4) bs)) size ∙ ap (λ f. take k (drop (f + 4) bs)) at ∙ earlier_driver_bytes bs m k used few within in
    contains_among (take (first + 4 + k - (first + 4)) (drop (first + 4) bs)) (get_or bs (first + 4 + k) 0) r h
    ∙ ap (λ xs. among xs (get_or bs (first + 4 + k) 0)) part
    ∙ ap (λ f. among (take k (drivers_of bs m)) (get_or bs (f + 4 + k) 0)) at
