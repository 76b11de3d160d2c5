-- A card's checks in four parts: the header, the records, the total, the entries. The first fault of a part is the card's where the parts
-- before it fail no check.
use Rattle.std.proofs.Common.{◌≡◌, ℕ, List, ◌++◌, Some, None, ◌∙◌}
use Rattle.sources.specs.First.{Check, first_failing, each_below}
use Rattle.sources.specs.FirstLaws.{first_failing_append_holding, first_failing_append_failing}
use Rattle.sources.specs.Layout.{measures_of, entries_of}
use Rattle.sources.specs.Checks.{header_checks, record_checks, total_checks, entry_checks, card_checks, card_fault}
use Rattle.sources.specs.declared.fault.CardFault.{CardFault}

abbrev pub of_records : List ℕ → List (Check CardFault)
of_records bs = each_below (measures_of bs) (record_checks bs)

abbrev pub of_entries : List ℕ → List (Check CardFault)
of_entries bs = each_below (entries_of bs) (entry_checks bs)

pub header_fails : (bs : List ℕ) (e : CardFault) → first_failing (header_checks bs) ≡ Some e → card_fault bs ≡ Some e
unfolding card_checks
header_fails bs e h =
    first_failing_append_failing (header_checks bs ++ of_records bs ++ total_checks bs) (of_entries bs) e
    (first_failing_append_failing (header_checks bs ++ of_records bs) (total_checks bs) e
    (first_failing_append_failing (header_checks bs) (of_records bs) e h))

module _ (bs : List ℕ) (header : first_failing (header_checks bs) ≡ None) where
  pub record_fails : (e : CardFault) → first_failing (of_records bs) ≡ Some e → card_fault bs ≡ Some e
  unfolding card_checks
  record_fails e h =
      first_failing_append_failing (header_checks bs ++ of_records bs ++ total_checks bs) (of_entries bs) e
      (first_failing_append_failing (header_checks bs ++ of_records bs) (total_checks bs) e
      (first_failing_append_holding (header_checks bs) (of_records bs) header ∙ h))

  module _ (records : first_failing (of_records bs) ≡ None) where
    pub total_fails : (e : CardFault) → first_failing (total_checks bs) ≡ Some e → card_fault bs ≡ Some e
    unfolding card_checks
    total_fails e h =
        first_failing_append_failing (header_checks bs ++ of_records bs ++ total_checks bs) (of_entries bs) e
        (first_failing_append_holding (header_checks bs ++ of_records bs) (total_checks bs) two ∙ h)
      where
        two : first_failing (header_checks bs ++ of_records bs) ≡ None
        two = first_failing_append_holding (header_checks bs) (of_records bs) header ∙ records

    -- where the total holds too, the card's fault is that of its entries
    pub entries_remain : first_failing (total_checks bs) ≡ None → card_fault bs ≡ first_failing (of_entries bs)
    unfolding card_checks
    entries_remain total =
        first_failing_append_holding (header_checks bs ++ of_records bs ++ total_checks bs) (of_entries bs)
        (first_failing_append_holding (header_checks bs ++ of_records bs) (total_checks bs)
        (first_failing_append_holding (header_checks bs) (of_records bs) header ∙ records)
        ∙ total)
