use Rattle.std.proofs.Common.{◌≡◌, ℕ, ◌*◌, ◌<◌, ◌≤◌, List, length, take, get_or, sym, ap, ◌∙◌, arith, length-take, get_or-take}
use Rattle.plan.specs.Limits.{most_drivers}
use Rattle.sources.specs.Layout.{classes_of, driver_count_of, driver_byte, drivers_of}
use Rattle.sources.specs.LayoutLaws.{length_drivers, get_or_drivers}
use Rattle.sources.proofs.Lengths.{classes_product, classes_product-all, table_step, table_step_small}
use Rattle.sources.proofs.record.Record.table_length.Goals as goal

-- the drivers that the loop goes over, at a position
driver_in_turn : (bs : List ℕ) (m k : ℕ) (ds : List ℕ) → ds ≡ take (driver_count_of bs m) (drivers_of bs m) → driver_count_of bs m ≤ most_drivers → k < length ds → (k < driver_count_of bs m) × (get_or ds k 0 ≡ driver_byte bs m k)
driver_in_turn bs m k ds is few h =
    let used : k < driver_count_of bs m = omega (arith, ap length is, length-take (driver_count_of bs m) (drivers_of bs m)) in
    (used, ap (λ xs. get_or xs k 0) is ∙ get_or-take (driver_count_of bs m) (drivers_of bs m) k 0 used ∙ get_or_drivers bs m k used (omega arith))

pub overflow_mul-length : goal.overflow_mul-length
overflow_mul-length c =
    omega (arith, table_step_small c.args.self.now.bytes.now c.args.self.now.m c.loop-driver.driver-index c.loop-driver.length c.requires c.loop-driver.invariant c.classes.result c.classes.type_inv)

pub loop-driver-preserved : goal.loop-driver-preserved
loop-driver-preserved c =
    let bs = c.args.self.now.bytes.now in
    let m = c.args.self.now.m in
    let k = c.loop-driver.driver-index in
    let few : driver_count_of bs m ≤ most_drivers = (c.requires m (omega arith)).few_drivers in
    let read = driver_in_turn bs m k c.drivers_before-driver-items.result.now (c.drivers_before-driver-items.ensures ∙ ap (λ n. take n (drivers_of bs m)) c.driver_count.ensures) few c.loop-driver-test.true in
    ap (λ n. c.loop-driver.length * n) (c.classes.ensures ∙ ap (classes_of bs) read.1)
    ∙ table_step bs m k c.loop-driver.length read.0 (omega (arith, read.0)) c.loop-driver.invariant

pub returns : goal.returns
returns c =
    let bs = c.args.self.now.bytes.now in
    let m = c.args.self.now.m in
    let few : driver_count_of bs m ≤ most_drivers = (c.requires m (omega arith)).few_drivers in
    let all : c.loop-driver.driver-index ≡ driver_count_of bs m =
    omega (arith, ap length c.drivers_before-driver-items.ensures, length-take c.driver_count.result (drivers_of bs m), length_drivers bs m) in
    c.loop-driver.invariant ∙ ap (λ k. classes_product bs m k * classes_of bs m) all ∙ sym (classes_product-all bs m)
