-- Shares come off, node by node.
use Rattle.std.proofs.Common.{◌≡◌, ℕ, ◌+◌, ◌-◌, ◌*◌, ◌<◌, ◌≤◌, true, false, cond, ltb, List, length, set, ap₂, arith}
use Rattle.std.proofs.lemmas.Bool.{lt-ltb, le-ltb}
use Rattle.std.proofs.lemmas.Bool.Decides.{nat_tests}
use Rattle.plan.specs.Sums.{Set, size, meet}
use Rattle.plan.proofs.Sums.{size_none_yet, size_more, size_member}
use Rattle.graph.specs.Graphs.{Adj, deg}
use Rattle.cutset.specs.Stages.{due, taken_off, lacking, short}
use Rattle.cutset.specs.Tables.{holds}
use Rattle.cutset.proofs.Tables.{tabled_here, tabled_write, tabled_keep, tabled_all}

-- what is due, by degrees that were counted
pub due_is : (n : ℕ) (adj : Adj) (C D : Set) (s v a b : ℕ) → a ≡ deg n adj C v → b ≡ deg n adj D v → s * (a - b) ≡ due n adj C D s v
unfolding due
due_is n adj C D s v a b p q = ap₂ (λ x y. s * (x - y)) p q

module _ (n : ℕ) (adj : Adj) (free C D : Set) (h : ℕ → ℕ) (s : ℕ) where
  -- the nodes below i have paid, and none of them lacked anything
  pub record Paying (i : ℕ) (xs : List ℕ) : Type 0 where
    pub table : (v : ℕ) → holds xs v ≡ cond (ltb v i) (taken_off n adj free C D h s v) (h v)
    pub enough : size i (lacking n adj free C D h s) ≡ 0

  pub paying_none : (xs : List ℕ) → ((v : ℕ) → holds xs v ≡ h v) → Paying 0 xs
  paying_none xs same = record {
    table = λ v. grind (arith, nat_tests, same v);
    enough = size_none_yet (lacking n adj free C D h s);
  }

  module _ (i : ℕ) (xs : List ℕ) (so_far : Paying i xs) where
    pub paying_here : holds xs i ≡ h i
    paying_here = tabled_here xs (taken_off n adj free C D h s) h i so_far.table

    -- the next node pays
    pub paying_off : i < n → i < length xs → meet D free i ≡ true → due n adj C D s i ≤ holds xs i
        → Paying (i + 1) (set xs i (holds xs i - due n adj C D s i))
    unfolding taken_off lacking
    paying_off lt long here can = record {
      table =
          tabled_write xs (taken_off n adj free C D h s) h i so_far.table (holds xs i - due n adj C D s i) long
          (grind (arith, nat_tests, paying_here));
      enough = grind (arith, nat_tests, size_more i (lacking n adj free C D h s), so_far.enough, paying_here);
    }

    -- the next node is gone, or may not be picked
    pub paying_skip : meet D free i ≡ false → Paying (i + 1) xs
    unfolding taken_off lacking
    paying_skip gone = record {
      table = tabled_keep xs (taken_off n adj free C D h s) h i so_far.table (grind (arith, nat_tests));
      enough = grind (arith, nat_tests, size_more i (lacking n adj free C D h s), so_far.enough);
    }

    -- the next node lacks something
    pub paying_short : i < n → meet D free i ≡ true → holds xs i < due n adj C D s i → short n adj free C D h s ≡ true
    unfolding lacking short
    paying_short lt here poor =
        lt-ltb 0 (size n (lacking n adj free C D h s))
        (size_member n (lacking n adj free C D h s) i lt (grind (arith, nat_tests, paying_here)))

  -- all have paid
  pub paying_all : (xs : List ℕ) → Paying n xs → (short n adj free C D h s ≡ false) × (holds xs ≡ taken_off n adj free C D h s)
  unfolding short taken_off
  paying_all xs p = (
    le-ltb 0 (size n (lacking n adj free C D h s)) (omega (arith, p.enough)),
    tabled_all xs (taken_off n adj free C D h s) h n p.table (λ v past. grind (arith, nat_tests)),
  )
