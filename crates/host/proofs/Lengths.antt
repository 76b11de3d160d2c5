-- How many digits numbers have, and how many members a set.
use Rattle.std.proofs.Common.{ℕ, ◌^◌, ◌<◌, ◌≤◌, length, decimal, arith}
use Rattle.std.proofs.lemmas.Fmt.{length-decimal-le}
use Rattle.std.proofs.lemmas.List.{length-take}
use Rattle.plan.specs.Limits.{most_measures}
use Rattle.cutset.specs.Tables.{told}
use Rattle.cutset.specs.declared.choice.Cutset.{Cutset}

pub digits_u8 : (n : ℕ) → n < 2 ^ 8 → length (decimal n) ≤ 3
digits_u8 n fits = length-decimal-le 3 n (omega arith) (omega arith) (omega arith)

pub digits_u32 : (n : ℕ) → n < 2 ^ 32 → length (decimal n) ≤ 10
digits_u32 n fits = length-decimal-le 10 n (omega arith) (omega arith) (omega arith)

pub digits_u64 : (n : ℕ) → n < 2 ^ 64 → length (decimal n) ≤ 20
digits_u64 n fits = length-decimal-le 20 n (omega arith) (omega arith) (omega arith)

pub few_members : (held : Cutset) → length (told held).members ≤ most_measures
few_members held = simp length-take (omega (arith, held.members.within, held.members.full))

-- what a writer's room for the lines of a listing rests on
pub ruleset lengths = (digits_u8, digits_u32, digits_u64, few_members)
