-- How texts that are written one after another join.
use Rattle.std.proofs.Common.{◌≡◌, ℕ, ◌+◌, ◌-◌, ◌/◌, ◌%◌, ◌^◌, ◌<◌, ◌≤◌, cond, ltb, List, [], ◌∷◌, ◌++◌, length, get_or, take, drop, set, decimal, sym, refl, ap, ◌∙◌, arith}
use Rattle.std.specs.List.{flat_map}
use Rattle.std.proofs.lemmas.Fmt.{decimal_digit, decimal_step}
use Rattle.std.proofs.lemmas.List.{append-nil, append_assoc, length-append, length_push, drop-drop, drop-set-lt, take_all, take-append-drop, take_more, take_more_set, flat_map_more}
use Rattle.std.proofs.lemmas.Bool.{cond_both, ltb-true, ltb-false, lt-ltb, le-ltb}
use Rattle.host.specs.Text.{Wrote}
use Rattle.host.specs.Writer.{Writes}
use Rattle.host.specs.declared.writer.Writer.{Writer}

-- nothing is written
pub wrote_none : (was : List ℕ) (at : ℕ) → Wrote was was at at []
wrote_none was at = record { extent = omega arith; up_to = sym (append-nil (take at was)); beyond = refl }

-- one byte is written
pub wrote_byte : (was : List ℕ) (at b : ℕ) → at < length was → Wrote was (set was at b) at (at + 1) (b ∷ [])
wrote_byte was at b within = record {
  extent = refl;
  up_to = take_more_set was at b within;
  beyond = drop-set-lt (at + 1) was at b (omega arith);
}

-- rows that agree from one place on agree from any later one on
drop_later : (xs ys : List ℕ) (i j : ℕ) → i ≤ j → drop i ys ≡ drop i xs → drop j ys ≡ drop j xs
drop_later xs ys i j le e =
    let s : i + (j - i) ≡ j = omega arith in
    ap (λ n. drop n ys) (sym s) ∙ sym (drop-drop (j - i) i ys) ∙ ap (drop (j - i)) e ∙ drop-drop (j - i) i xs ∙ ap (λ n. drop n xs) s

-- two texts one after another are one text
pub wrote_both : {a b c : List ℕ} {i j k : ℕ} {xs ys : List ℕ} → Wrote a b i j xs → Wrote b c j k ys → Wrote a c i k (xs ++ ys)
wrote_both {a} {b} {c} {i} {j} {k} {xs} {ys} first second = record {
  extent = omega (arith, length-append xs ys, first.extent, second.extent);
  up_to = second.up_to ∙ ap (λ t. t ++ ys) first.up_to ∙ append_assoc (take i a) xs ys;
  beyond = second.beyond ∙ drop_later a b j k (omega (arith, second.extent)) first.beyond;
}

-- a row as a whole: the text at its beginning, and then what stood after it
pub wrote_whole : {was now : List ℕ} {n : ℕ} {text : List ℕ} → Wrote was now 0 n text → now ≡ text ++ drop n was
wrote_whole {was} {now} {n} {text} w =
    sym (take-append-drop n now) ∙ ap (λ t. t ++ drop n now) w.up_to ∙ ap (λ t. text ++ t) w.beyond

-- the digits of a number before its last one
abbrev pub front : ℕ → List ℕ
front n = cond (ltb n 10) [] (decimal (n / 10))

pub decimal_front : (n : ℕ) → n < 2 ^ 64 → decimal n ≡ front n ++ ((48 + n % 10) ∷ [])
decimal_front n fits =
    cond_both (ltb n 10) [] (decimal (n / 10)) (λ ds. decimal n ≡ ds ++ ((48 + n % 10) ∷ []))
    (λ e. let small = ltb-true n 10 e in let same : n ≡ n % 10 = omega arith in decimal_digit n small ∙ ap (λ d. (48 + d) ∷ []) same)
    (λ e. decimal_step n (ltb-false n 10 e) fits)

pub length_decimal : (n : ℕ) → n < 2 ^ 64 → length (decimal n) ≡ length (front n) + 1
length_decimal n fits = ap length (decimal_front n fits) ∙ length_push (front n) (48 + n % 10)

pub front_one : (n : ℕ) → n < 10 → front n ≡ []
front_one n small = rw (lt-ltb n 10 small)

pub front_more : (n : ℕ) → 10 ≤ n → front n ≡ decimal (n / 10)
front_more n large = rw (le-ltb n 10 large)

-- a writer writes nothing
pub writes_none : (w : Writer) → Writes w w []
writes_none w = record { same_row = refl; same_length = refl; wrote = wrote_none w.row.now w.at }

-- a writer writes two texts one after another, which are one text
infixl 10 ◌>>◌
pub ◌>>◌ : {u v w : Writer} {xs ys : List ℕ} → Writes u v xs → Writes v w ys → Writes u w (xs ++ ys)
first >> second = record {
  same_row = second.same_row ∙ first.same_row;
  same_length = second.same_length ∙ first.same_length;
  wrote = wrote_both first.wrote second.wrote;
}

-- what is written under another name
pub writes_same : {u v : Writer} {xs ys : List ℕ} → Writes u v xs → xs ≡ ys → Writes u v ys
writes_same w same = rw same at w

-- the lines of one member more
pub writes-more :
    (line : ℕ → List ℕ) {u v w : Writer} (ms : List ℕ) (i : ℕ) → i < length ms →
    Writes u v (flat_map line (take i ms)) → Writes v w (line (get_or ms i 0)) → Writes u w (flat_map line (take (i + 1) ms))
writes-more line ms i within first second = rw (take_more ms i 0 within, ← flat_map_more line [] (take i ms) (get_or ms i 0)) (first >> second)

-- the lines of all the members
pub writes-all :
    (line : ℕ → List ℕ) {u v : Writer} (ms : List ℕ) (i : ℕ) → length ms ≤ i → Writes u v (flat_map line (take i ms)) → Writes u v (flat_map line ms)
writes-all line ms i all w = rw (take_all i ms all) at w
