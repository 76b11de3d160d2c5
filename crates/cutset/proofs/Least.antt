-- What `min_by_key` picks: the first of several items whose key is least, and so the lowest of several nodes with the smallest share.
use Rattle.std.proofs.Common.{Bor, ◌≡◌, ℕ, zero, suc, ◌+◌, cond, List, [], ◌∷◌, ◌++◌, map, Some, None, Option, Ordering, Less, Equal, Greater, sym, refl, ap, ◌∙◌, ap₂, subst, add-one, inl, inr, arith}
use Rattle.std.proofs.lemmas.Bool.Decides.{nat_tests}
use Rattle.std.proofs.lemmas.Bool.{cases_Bool, cases_lt}
use Rattle.std.proofs.lemmas.List.{map-append, append-nil}
use Rattle.std.proofs.lemmas.List.Elements.{filter-append}
use Rattle.std.proofs.lemmas.List.Sums.{fold-append}
use Rattle.std.proofs.lemmas.Iterator.{YieldsList}
use Rattle.std.proofs.lemmas.Iterator.Consumers.{reduce_from_yields_List}
use Rattle.std.specs.Fn.{CalledAt, Mut}
use Rattle.std.specs.Iterator.{KeyTurn, PicksMinByKey}
use Rattle.std.specs.List.{FoldsTo, filter, reduce, range_with_len}
use Rattle.std.specs.Ordering.{nat_cmp, min_by_ordering}
use Rattle.plan.specs.Sums.{Set}
use Rattle.graph.specs.Graphs.{Adj}
use Rattle.cutset.specs.Stages.{share, better, smallest}
use Rattle.cutset.specs.Tables.{with_share, smaller_of}
use Rattle.cutset.proofs.Smallest.{smallest_none_yet, smallest_more, better_yes, better_no}

-- of two items the one with the lesser key, the first where they are equal
abbrev pub lesser : {A : Type 0} → (A → ℕ) → A → A → A
lesser key p z = min_by_ordering (nat_cmp (key p) (key z)) p z

key_of_min : {A : Type 0} (key : A → ℕ) (o : Ordering) (p z : A) → key (min_by_ordering o p z) ≡ min_by_ordering o (key p) (key z)
key_of_min key Less p z = refl
key_of_min key Equal p z = refl
key_of_min key Greater p z = refl

-- f, called at an item, tells its key, and stays f
abbrev pub TellsKey : {F A : Type 0} → Mut F (Bor A × Unit {0}) ℕ → F → (A → ℕ) → Type 0
TellsKey {F} {A} g f key = (x : A) (k : ℕ) (q : F) → CalledAt g f x k q → (q ≡ f) × (k ≡ key x)

module _ {S A F : Type 0} (steps : S → Option A → S → Type 0) (g : Mut F (Bor A × Unit {0}) ℕ) (key : A → ℕ) (f : F) (tells : TellsKey g f key) where
  -- the turns from x on, over the items xs, keep the lesser of two
  keeps_lesser : (xs : List A) (q : F) (k : ℕ) (x : A) (last : F × ℕ) (y : A) → q ≡ f → k ≡ key x
      → FoldsTo {P = (F × ℕ) × A} (KeyTurn min_by_ordering min_by_ordering g nat_cmp) ((q, k), x) xs (last, y)
      → FoldsTo (λ p z c. c ≡ lesser key p z) x xs y
  keeps_lesser [] q k x last y same e ran = ap (λ (p : (F × ℕ) × A). p.1) ran
  keeps_lesser (z ∷ zs) q k x last y same e ran =
      let next = ran.0 in
      let turn = ran.1 in
      let told = tells z turn.0 next.0.0 (subst (λ u. CalledAt g u z turn.0 next.0.0) same turn.2) in
      let kept : next.1 ≡ lesser key x z = turn.5 ∙ ap (λ o. min_by_ordering o x z) (sym turn.3 ∙ ap₂ nat_cmp e told.1) in
      let its_key : next.0.1 ≡ key next.1 =
      turn.4 ∙ ap₂ (min_by_ordering turn.1) e told.1 ∙ sym (key_of_min key turn.1 x z) ∙ ap key (sym turn.5) in
      (next.1, kept, keeps_lesser zs next.0.0 next.0.1 next.1 last y told.0 its_key ran.2)

  pub least_of : {s : S} {all : List A} (r : Option A) → PicksMinByKey steps g nat_cmp s f r → YieldsList steps (λ x. x) s all
      → r ≡ reduce (lesser key) all
  least_of None ran road = reduce_from_yields_List (lesser key) _ None ran road
  least_of (Some y) ran road =
      let told = tells ran.0 ran.2 ran.3 ran.6 in
      reduce_from_yields_List (lesser key) _ (Some y)
      (ran.0, ran.1, ran.5, keeps_lesser ran.1 ran.3 ran.2 ran.0 ran.4 y told.0 told.1 ran.7) road

-- one number more
range_more : (a m j : ℕ) → a + m ≡ j → range_with_len a (suc m) ≡ range_with_len a m ++ j ∷ []
range_more a zero j e = ap (λ x. x ∷ []) (omega arith)
range_more a (suc m) j e = ap (λ xs. a ∷ xs) (range_more (a + 1) m j (omega arith))

-- the lesser of what was found and one item more
abbrev lesser_so_far : {A : Type 0} → (A → ℕ) → Option A → A → A
lesser_so_far key None x = x
lesser_so_far key (Some p) x = lesser key p x

reduce_more : {A : Type 0} (key : A → ℕ) (xs : List A) (x : A)
    → reduce (lesser key) (xs ++ x ∷ []) ≡ Some (lesser_so_far key (reduce (lesser key) xs) x)
reduce_more key [] x = refl
reduce_more key (y ∷ ys) x = ap Some (fold-append (lesser key) y ys (x ∷ []))

smaller_is : (o : Option (ℕ × ℕ)) (m s : ℕ) → Some (lesser_so_far (λ (p : ℕ × ℕ). p.1) o (m, s)) ≡ smaller_of o m s
smaller_is None m s = refl
smaller_is (Some p) m s = elim (cases_lt s p.1) [ inl less ↦ grind (arith, nat_tests) | inr least ↦ grind (arith, nat_tests) ]

module _ (n : ℕ) (adj : Adj) (C X : Set) (h : ℕ → ℕ) where
  -- those of the numbers that are members of X, each with its share
  abbrev pub shares : List ℕ → List (ℕ × ℕ)
  shares vs = map (λ v. (v, share n adj C h v)) (filter X vs)

  shares_more : (m : ℕ) → shares (range_with_len 0 (suc m)) ≡ shares (range_with_len 0 m) ++ shares (m ∷ [])
  shares_more m =
      ap shares (range_more 0 m m (omega arith))
      ∙ ap (map (λ v. (v, share n adj C h v))) (filter-append X (range_with_len 0 m) (m ∷ []))
      ∙ map-append (λ v. (v, share n adj C h v)) (filter X (range_with_len 0 m)) (filter X (m ∷ []))

  -- the first least share is the smallest, the lowest of several
  pub shares_least : (m : ℕ) → reduce (lesser (λ (p : ℕ × ℕ). p.1)) (shares (range_with_len 0 m)) ≡ with_share n adj C h (smallest m X (share n adj C h))
  shares_least zero = sym (ap (with_share n adj C h) (smallest_none_yet X (share n adj C h)))
  shares_least (suc m) =
      let f : ℕ → ℕ = share n adj C h in
      let key : ℕ × ℕ → ℕ = λ p. p.1 in
      let found : Option ℕ = smallest m X f in
      let before : List (ℕ × ℕ) = shares (range_with_len 0 m) in
      let more : smallest (suc m) X f ≡ better X f m found = rw (← add-one) (smallest_more m X f) in
      ap (reduce (lesser key)) (shares_more m)
      ∙ elim (cases_Bool (X m)) [
        | inl here ↦
            ap (λ b. reduce (lesser key) (before ++ map (λ v. (v, f v)) (cond b (m ∷ []) []))) here
            ∙ reduce_more key before (m, f m)
            ∙ ap (λ o. Some (lesser_so_far key o (m, f m))) (shares_least m)
            ∙ smaller_is (with_share n adj C h found) m (f m)
            ∙ sym (better_yes n adj C X h m found here)
            ∙ ap (with_share n adj C h) (sym more)
        | inr gone ↦
            ap (λ b. reduce (lesser key) (before ++ map (λ v. (v, f v)) (cond b (m ∷ []) []))) gone
            ∙ ap (reduce (lesser key)) (append-nil before)
            ∙ shares_least m
            ∙ ap (with_share n adj C h) (sym (more ∙ better_no X f m found gone))
      ]
