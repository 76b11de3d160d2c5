use Rattle.std.proofs.Common.{ℕ, ◌+◌, ◌%◌, ◌<◌, length, refl, arith, rules}
use Rattle.std.proofs.lemmas.List.{length-set}
use Rattle.host.specs.Writer.{Writes}
use Rattle.host.proofs.Writes.{wrote_byte, writes_none, ◌>>◌, front, front_one, front_more, decimal_front, length_decimal}
use Rattle.host.proofs.writer.Writer.+number.Goals as goal
use Rattle.host.proofs.writer.Writer.+number.Goals.{Joined-n-ge10, then-n-ge10, else-n-ge10}

-- on both ways the digits before the last one are written
front_written : (t : ℕ) (c : Joined-n-ge10 t) → Writes c.args.self.now c.if-n-ge10.self (front c.args.n)
front_written t c = elim c.if-n-ge10.branch [
  | then-n-ge10 w ↦ rw (w.self-is, front_more c.args.n w.if-n-ge10.true) w.number.ensures
  | else-n-ge10 w ↦ rw (w.self-is, front_one c.args.n w.if-n-ge10.false) (writes_none c.args.self.now)
]

-- and there is room for the last one
last_fits : (t : ℕ) (c : Joined-n-ge10 t) → c.if-n-ge10.self.at < length c.if-n-ge10.self.row.now
last_fits t c =
    let before = front_written t c in
    omega (arith, before.wrote.extent, before.same_length, length_decimal c.args.n (omega arith))

pub number-requires : goal.number-requires
number-requires t c =
    let n = c.args.n in
    let f = front_more n c.if-n-ge10.true in
    (omega arith, omega (arith, rw f at (length_decimal n (omega arith))))

pub bounds-row-self : goal.bounds-row-self
bounds-row-self t c = last_fits t (goal.at.bounds-row-self t c).Joined-n-ge10

pub invariant_of-self : goal.invariant_of-self
invariant_of-self t c = record { within = simp length-set (omega (arith, last_fits t (goal.at.invariant_of-self t c).Joined-n-ge10)) }

pub returns : goal.returns
returns t c =
    let n = c.args.n in
    let w = c.if-n-ge10.self in
    let joined = (goal.at.returns t c).Joined-n-ge10 in
    rw (decimal_front n (omega arith))
    (front_written t joined >> record { same_row = refl; same_length = search rules; wrote = wrote_byte w.row.now w.at (48 + n % 10) (last_fits t joined) })
