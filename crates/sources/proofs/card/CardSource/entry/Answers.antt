use Rattle.std.proofs.Common.{◌≡◌, ℕ, ◌+◌, ◌<◌, List, ap, ◌∙◌, arith}
use Rattle.sources.specs.Layout.{length_of, start_of, entries_of}
use Rattle.sources.specs.Inside.{Inside}
use Rattle.sources.proofs.Opened.{outside_entry, entry_within}
use Rattle.sources.proofs.card.CardSource.entry.Goals as goal

-- a place that is within the length of a record's table is that of one of the card's entries
place_within : (bs xs : List ℕ) (m k place start len : ℕ) → Inside bs m → xs ≡ bs → k ≡ m → start ≡ start_of xs k → len ≡ length_of xs k → place < len → start + place < entries_of bs
place_within bs xs m k place start len known bytes measure begins long h =
    let begins' : start ≡ start_of bs m = begins ∙ ap (λ ys. start_of ys k) bytes ∙ ap (start_of bs) measure in
    let long' : len ≡ length_of bs m = long ∙ ap (λ ys. length_of ys k) bytes ∙ ap (length_of bs) measure in
    omega (arith, entry_within bs m place known (omega (arith, long')))

pub returns-in_default : goal.returns-in_default
returns-in_default c = outside_entry c.args.self.now.bytes.now c.args.m c.args.place (omega (arith, c.in_default.ensures.past, c.args.self.now.opened))

pub overflow_add-start : goal.overflow_add-start
overflow_add-start c =
    let known = c.in-Some.ensures.inside in
    let place = place_within c.args.self.now.bytes.now c.in-Some.record.bytes.now c.args.m c.in-Some.record.m c.args.place _ _ known c.in-Some.ensures.bytes c.in-Some.ensures.measure c.start.ensures c.table_length.ensures c.if-place-table_length.true in
    omega (arith, place, known.passed.header.few_entries)

pub read_u32-requires : goal.read_u32-requires
read_u32-requires c =
    let known = c.in-Some.ensures.inside in
    let place = place_within c.args.self.now.bytes.now c.in-Some.record.bytes.now c.args.m c.in-Some.record.m c.args.place _ _ known c.in-Some.ensures.bytes c.in-Some.ensures.measure c.start.ensures c.table_length.ensures c.if-place-table_length.true in
    omega (arith, place, known.count, c.args.self.now.opened, known.passed.header.as_long, c.entry_place.ensures)
