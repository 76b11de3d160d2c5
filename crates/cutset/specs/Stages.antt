-- One stage of the choosing, on any graph: C are the nodes present, h says what each holds, and `free` are the nodes that may be picked.
use Rattle.std.specs.Prelude.{ℕ, zero, suc, ◌-◌, ◌*◌, ◌/◌, Bool, cond, ◌&&◌, List, [], ◌∷◌, Some, None, Ok, Err, Option, Result, ◌==◌, nat_lt}
use Rattle.plan.specs.Sums.{Set, size, meet, without}
use Rattle.graph.specs.Graphs.{Adj, deg}
use Rattle.graph.specs.Pruning.{prune}
use Rattle.cutset.specs.declared.pick.Pick.{Pick}
use Rattle.cutset.specs.declared.fault.ChoiceFault.{ChoiceFault}
use Rattle.cutset.specs.declared.fault.ChoiceFault.TheVariants.{LoopBarred, HoldsTooLittle}

-- the share of v: what it holds, divided by its number of edges, fraction dropped
unfoldable pub share : ℕ → Adj → Set → (ℕ → ℕ) → ℕ → ℕ
share n adj C h v = h v / deg n adj C v

-- what was found among the numbers before u, or u, where that is a member and f is less at it
unfoldable pub better : Set → (ℕ → ℕ) → ℕ → Option ℕ → Option ℕ
better X f u None = cond (X u) (Some u) None
better X f u (Some v) = cond (X u && nat_lt (f u) (f v)) (Some u) (Some v)

-- the member of X below n at which f is smallest, the lowest of several
unfoldable pub smallest : ℕ → Set → (ℕ → ℕ) → Option ℕ
smallest zero X f = None
smallest (suc n) X f = better X f n (smallest n X f)

-- the node to pick: of those present that may be picked, the one with the smallest share
unfoldable pub next_pick : ℕ → Adj → Set → Set → (ℕ → ℕ) → Option ℕ
next_pick n adj free C h = smallest n (meet C free) (share n adj C h)

-- what comes off v as C becomes D: the share for every edge at v that went
unfoldable pub due : ℕ → Adj → Set → Set → ℕ → ℕ → ℕ
due n adj C D s v = s * (deg n adj C v - deg n adj D v)

-- it comes off the nodes that remain and may be picked
unfoldable pub taken_off : ℕ → Adj → Set → Set → Set → (ℕ → ℕ) → ℕ → (ℕ → ℕ)
taken_off n adj free C D h s v = cond (nat_lt v n && meet D free v) (h v - due n adj C D s v) (h v)

-- those of these that hold less than is to come off, and whether there are any
unfoldable pub lacking : ℕ → Adj → Set → Set → Set → (ℕ → ℕ) → ℕ → Set
lacking n adj free C D h s v = meet D free v && nat_lt (h v) (due n adj C D s v)

unfoldable pub short : ℕ → Adj → Set → Set → Set → (ℕ → ℕ) → ℕ → Bool
short n adj free C D h s = nat_lt 0 (size n (lacking n adj free C D h s))

abbrev pub prepend : Pick → Result (List Pick) ChoiceFault → Result (List Pick) ChoiceFault
prepend pick (Ok picks) = Ok (pick ∷ picks)
prepend pick (Err e) = Err e

-- With nothing to pick, all is done if nothing is present, and else refused. A pick is removed, the rest pruned, and the shares come off;
-- `rest` are the stages after that.
unfoldable pub stage : ℕ → Adj → Set → Set → (ℕ → ℕ) → (Set → (ℕ → ℕ) → Result (List Pick) ChoiceFault) → Option ℕ → Result (List Pick) ChoiceFault
stage n adj free C h rest None = cond (size n C == 0) (Ok []) (Err LoopBarred)
stage n adj free C h rest (Some v) =
    let s : ℕ = share n adj C h v in
    let D : Set = prune n adj (without C v) in
    cond (short n adj free C D h s) (Err HoldsTooLittle)
    (prepend (record { measure = v; share = s }) (rest D (taken_off n adj free C D h s)))

-- at most k stages, each with its pick; after as many as there are nodes to pick none is left, so with k above that number it never ends
-- for want of stages
unfoldable pub stages : ℕ → ℕ → Adj → Set → Set → (ℕ → ℕ) → Result (List Pick) ChoiceFault
stages zero n adj free C h = Err LoopBarred
stages (suc k) n adj free C h = stage n adj free C h (stages k n adj free) (next_pick n adj free C h)
