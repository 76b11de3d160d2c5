-- The nodes that remain, and the edges of the split graph as they are linked one by one.
use Rattle.std.proofs.Common.{◌≡◌, ℕ, ◌+◌, ◌-◌, ◌<◌, ◌≤◌, Bool, true, false, not, ◌&&◌, ◌||◌, eqb, ltb, List, [], ◌∷◌, ◌++◌, sym, refl, ◌∙◌, inl, inr, arith}
use Rattle.std.proofs.Math.Path.{fun_ext}
use Rattle.std.proofs.lemmas.Bool.{cases_lt, or_cases, or_from}
use Rattle.std.proofs.lemmas.Bool.Decides.{nat_tests}
use Rattle.plan.specs.Sums.{Set, among}
use Rattle.plan.specs.Plan.{Plan, Lawful, scope}
use Rattle.plan.proofs.Sets.{among_append, among_place}
use Rattle.graph.specs.Graphs.{Adj}
use Rattle.graph.specs.Split.{remaining, split, value_table, joined, linked_to}

pub remaining_below : (k : ℕ) (T : Set) (x : ℕ) → remaining k T x ≡ true → x < k + k
unfolding remaining
remaining_below k T x e = grind (arith, nat_tests)

-- a table node remains
pub remaining_table : (k : ℕ) (T : Set) (x : ℕ) → x < k + k → k ≤ x → remaining k T x ≡ true
unfolding remaining
remaining_table k T x l g = grind (arith, nat_tests)

-- a value node remains just where its measure is not in the set
pub remaining_value : (k : ℕ) (T : Set) (x : ℕ) → x < k → remaining k T x ≡ not (T x)
unfolding remaining
remaining_value k T x l = grind (arith, nat_tests)

-- what a table reads is the measure itself or one below it
pub scope_upto : (p : Plan) → Lawful p → (t x : ℕ) → among (scope p t) x ≡ true → x ≤ t
scope_upto p law t x e =
    elim (or_cases (among (p.drivers t) x) (among (t ∷ []) x) (sym (among_append (p.drivers t) (t ∷ []) x) ∙ e)) [
      | inl driver ↦ let w = among_place (p.drivers t) x driver in omega (arith, w.2, law.lower_drivers t w.0 w.1)
      | inr own ↦ grind (arith, nat_tests)
    ]

-- one edge more at x
pub linked_to_more : (adj : Adj) (x y : ℕ) (ys : List ℕ) → joined (linked_to adj x ys) x y ≡ linked_to adj x (ys ++ (y ∷ []))
unfolding joined linked_to
linked_to_more adj x y ys =
    fun_ext (λ a. fun_ext (λ b.
    let p = among_append ys (y ∷ []) a in
    let q = among_append ys (y ∷ []) b in
    rw (p, q) (grind arith)))

pub linked_to_none : (adj : Adj) (x : ℕ) → adj ≡ linked_to adj x []
unfolding linked_to
linked_to_none adj x = fun_ext (λ a. fun_ext (λ b. grind arith))

-- the edges of the split graph at the table nodes of the measures below t
unfoldable pub table_below : Plan → ℕ → ℕ → ℕ → Bool
table_below p t x y = ltb y (p.count + t) && value_table p x y

unfoldable pub split_below : Plan → ℕ → Adj
split_below p t x y = table_below p t x y || table_below p t y x

module _ (p : Plan) (law : Lawful p) where
  value_table_parts : (x y : ℕ) → value_table p x y ≡ true → (x < p.count) × (p.count ≤ y) × (among (scope p (y - p.count)) x ≡ true)
  unfolding value_table
  value_table_parts x y e = grind (arith, nat_tests)

  -- the second end of such an edge is a node
  value_table_node : (x y : ℕ) → value_table p x y ≡ true → y < p.count + p.count
  value_table_node x y e =
      let w = value_table_parts x y e in
      elim (cases_lt y (p.count + p.count)) [
        | inl l ↦ l
        | inr g ↦
            let own = rw (law.outside (y - p.count) (omega arith)).no_driver at w.2 in
            grind (arith, nat_tests)
      ]

  value_table_at : (t x : ℕ) → t < p.count → value_table p x (p.count + t) ≡ among (scope p t) x
  unfolding value_table
  value_table_at t x lt =
      let e : p.count + t - p.count ≡ t = omega arith in
      rw e (grind (arith, nat_tests, scope_upto p law t x))

  table_below_more : (t x y : ℕ) → t < p.count
      → table_below p (t + 1) x y ≡ (table_below p t x y || (eqb y (p.count + t) && among (scope p t) x))
  unfolding table_below
  table_below_more t x y lt = let here = value_table_at t x lt in grind (arith, nat_tests)

  -- the edges of one table more
  pub split_below_more : (t : ℕ) → t < p.count → linked_to (split_below p t) (p.count + t) (scope p t) ≡ split_below p (t + 1)
  unfolding split_below linked_to
  split_below_more t lt =
      fun_ext (λ a. fun_ext (λ b. let q = table_below_more t a b lt in let r = table_below_more t b a lt in rw (q, r) (grind arith)))

  table_below_none : (x y : ℕ) → table_below p 0 x y ≡ false
  unfolding table_below
  table_below_none x y = grind (arith, nat_tests, value_table_parts x y)

  pub split_below_none : split_below p 0 ≡ (λ _ _. false)
  unfolding split_below
  split_below_none =
      fun_ext (λ a. fun_ext (λ b. or_from (table_below p 0 a b) (table_below p 0 b a) (table_below_none a b) (table_below_none b a)))

  table_below-all : (x y : ℕ) → table_below p p.count x y ≡ value_table p x y
  unfolding table_below
  table_below-all x y = grind (arith, nat_tests, value_table_node x y)

  -- the edges of all the tables
  pub split_below-all : split_below p p.count ≡ split p
  unfolding split_below split
  split_below-all = fun_ext (λ a. fun_ext (λ b. let q = table_below-all a b in let r = table_below-all b a in rw (q, r) refl))
