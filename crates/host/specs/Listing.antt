-- The listing of a card, as bytes: what is held where nothing is taken, or why nothing is. Each line ends with a line feed, and numbers
-- are in base ten. A contract cites the last definitions, `Listed` and `NotListed`; they rest on `listing`, and that on the lines and on
-- `held_by_card`.
use Rattle.std.specs.Prelude.{◌≡◌, ℕ, ◌<◌, ◌≤◌, false, List, [], ◌++◌, length, drop, Some, None, Ok, Err, codes, decimal, Option, Result}
use Rattle.std.specs.List.{flat_map}
use Rattle.plan.specs.Plan.{Plan}
use Rattle.sources.specs.Card.{card_plan}
use Rattle.sources.specs.Checks.{card_fault}
use Rattle.sources.specs.declared.fault.CardFault.{CardFault}
use Rattle.cutset.specs.Method.{Choice, chosen}
use Rattle.cutset.specs.declared.fault.ChoiceFault.{ChoiceFault}
use Rattle.panel.specs.Refusals.{refusal_number, refusal_place, of_choice}
use Rattle.panel.specs.declared.refusal.Refusal.{Refusal}
use Rattle.panel.specs.declared.refusal.Refusal.TheVariants.{Card, ShortRow}

-- a choice, with its fault as a refusal
abbrev pub or_refused : Result Choice ChoiceFault → Result Choice Refusal
or_refused (Ok choice) = Ok choice
or_refused (Err e) = Err (of_choice e)

-- the choice for a plan with nothing taken, unless the card that the plan is read from has a fault
abbrev pub held_unless : Option CardFault → Plan → Result Choice Refusal
held_unless (Some e) p = Err (Card e)
held_unless None p = or_refused (chosen p (λ _. false))

-- what is held by the plan of a card where nothing is taken, or the refusal
abbrev pub held_by_card : List ℕ → Result Choice Refusal
held_by_card bs = held_unless (card_fault bs) (card_plan bs)

-- "HELD 2 WEIGHT 7 SETTINGS 6": the number of members, their weight, and the number of their settings
unfoldable pub held_line : ℕ → ℕ → ℕ → List ℕ
held_line members weight settings =
    codes "HELD " ++ decimal members ++ codes " WEIGHT " ++ decimal weight ++ codes " SETTINGS " ++ decimal settings ++ codes "\n"

-- the most bytes of that: 24, and ten digits for each number
abbrev pub longest_held_line : ℕ
longest_held_line = 54

-- "MEASURE 4"
unfoldable pub measure_line : ℕ → List ℕ
measure_line m = codes "MEASURE " ++ decimal m ++ codes "\n"

-- the most bytes of that: nine, and three digits
abbrev pub longest_measure_line : ℕ
longest_measure_line = 12

-- a line for the set, and then one for each member, in rising order
abbrev pub held_text : Choice → List ℕ
held_text choice =
    held_line (length choice.members) choice.weight choice.settings ++ flat_map measure_line choice.members

-- " AT 32", or nothing where there is no place
abbrev pub place_text : Option ℕ → List ℕ
place_text (Some place) = codes " AT " ++ decimal place
place_text None = []

-- the most bytes of that: four, and twenty digits
abbrev pub longest_place : ℕ
longest_place = 24

-- "REFUSED 4 AT 32", or "REFUSED 14": the number of the refusal, and its place if it has one
unfoldable pub refusal_line : ℕ → Option ℕ → List ℕ
refusal_line number place = codes "REFUSED " ++ decimal number ++ place_text place ++ codes "\n"

-- the text of what is held, or of the refusal
abbrev pub text_of : Result Choice Refusal → List ℕ
text_of (Ok choice) = held_text choice
text_of (Err e) = refusal_line (refusal_number e) (refusal_place e)

-- the listing of a card
abbrev pub listing : List ℕ → List ℕ
listing bs = text_of (held_by_card bs)

-- the least length of a row: every listing fits into it
abbrev pub listing_row : ℕ
listing_row = 1024

-- a row that is long enough begins with the listing of the card bs, n bytes long, and is as it was after that
pub record Listed (bs was now : List ℕ) (n : ℕ) : Type 0 where
  pub room : listing_row ≤ length was
  pub within : n ≤ listing_row
  pub extent : n ≡ length (listing bs)
  pub bytes : now ≡ listing bs ++ drop n was

-- a shorter row is refused, and stays as it was
pub record NotListed (was now : List ℕ) (e : Refusal) : Type 0 where
  pub short : length was < listing_row
  pub refusal : e ≡ ShortRow
  pub same : now ≡ was
