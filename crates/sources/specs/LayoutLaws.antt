-- Laws of how a card lies in its bytes. They stand here and not among the proofs for the same reason as FirstLaws.
use Rattle.std.specs.Prelude.{◌≡◌, ℕ, zero, suc, ◌+◌, ◌<◌, ◌≤◌, min, List, [], ◌∷◌, length, slice_index, refl}
use Rattle.std.proofs.Common.{⊎_elim, ap, ◌∙◌, arith, length-take, get_or-take}
use Rattle.std.proofs.lemmas.Bool.{cases_lt}
use Rattle.plan.specs.Limits.{most_drivers}
use Rattle.plan.specs.Sums.{over}
use Rattle.sources.specs.Layout.{driver_count_of, driver_byte, drivers_of, length_of, earlier_lengths}

-- the driver bytes in a row
abbrev pub driver_bytes : List ℕ → ℕ → List ℕ
driver_bytes bs m = driver_byte bs m 0 ∷ driver_byte bs m 1 ∷ driver_byte bs m 2 ∷ []

get_or-driver_bytes : (bs : List ℕ) (m k : ℕ) → k < most_drivers → slice_index (driver_bytes bs m) k ≡ driver_byte bs m k
get_or-driver_bytes bs m zero h = refl
get_or-driver_bytes bs m (suc zero) h = refl
get_or-driver_bytes bs m (suc (suc zero)) h = refl
get_or-driver_bytes bs m (suc (suc (suc k))) h = absurd (omega arith)

-- as many drivers as the record says, each of them the driver byte at its position
pub length_drivers : (bs : List ℕ) (m : ℕ) → length (drivers_of bs m) ≡ min (driver_count_of bs m) most_drivers
length_drivers bs m = length-take (driver_count_of bs m) (driver_bytes bs m)

pub get_or_drivers : (bs : List ℕ) (m k : ℕ) → k < driver_count_of bs m → k < most_drivers → slice_index (drivers_of bs m) k ≡ driver_byte bs m k
get_or_drivers bs m k used h = get_or-take (driver_count_of bs m) (driver_bytes bs m) k 0 used ∙ get_or-driver_bytes bs m k h

-- the tables up to that of m have as many entries as those before it and its own
pub earlier_lengths_more : (bs : List ℕ) (m : ℕ) → earlier_lengths bs (suc m) ≡ earlier_lengths bs m + length_of bs m
unfolding earlier_lengths over
earlier_lengths_more bs m = refl

-- a table of a measure below n ends within those of the measures below n
pub earlier_lengths_within : (bs : List ℕ) (n m : ℕ) → m < n → earlier_lengths bs m + length_of bs m ≤ earlier_lengths bs n
earlier_lengths_within bs zero m h = absurd (omega arith)
earlier_lengths_within bs (suc n) m h =
    ⊎_elim
    (λ (below : m < n). omega (arith, earlier_lengths_within bs n m below, earlier_lengths_more bs n))
    (λ (above : n ≤ m).
    let same : m ≡ n = omega arith in
    let last : earlier_lengths bs (suc m) ≡ earlier_lengths bs (suc n) = ap (λ k. earlier_lengths bs (suc k)) same in
    omega (arith, last, earlier_lengths_more bs m))
    (cases_lt m n)
