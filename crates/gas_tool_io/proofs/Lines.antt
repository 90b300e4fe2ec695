-- Lemmas about the lines of a table.
use Rattle.std.proofs.Common.{◌≡◌, ℕ, zero, suc, ◌-◌, List, [], ◌∷◌, ◌++◌, length, refl, ap, ◌∙◌, ℤ, pos, negsuc, append_assoc, append-nil, arith, lit<, false, true}
use Rattle.std.specs.Prelude.{replicate, unsigned_abs}
use Rattle.std.specs.Int.{is_negative}
use Rattle.std.specs.List.{repeat}
use Rattle.std.specs.Fmt.{decimal, signed_decimal, format_spec, padded_integral, char_count}
use Rattle.std.proofs.lemmas.Str.{encode_ascii}
use Rattle.std.proofs.lemmas.Bool.{le-ltb}
use Rattle.std.proofs.Math.Utf8.{encode}
use Rattle.gas_tool_io.specs.Table.{right_aligned, table_line}

spaces : (n : ℕ) → repeat n (encode 32) ≡ replicate n 32
spaces n = ap (repeat n) (encode_ascii 32 (lit< tt)) ∙ each n
  where
    each : (n : ℕ) → repeat {A = ℕ} n (32 ∷ []) ≡ replicate n 32
    each zero = refl
    each (suc n) = ap (λ xs. 32 ∷ xs) (each n)

-- what `{:>w}` writes: spaces, a sign and digits
joined : (sign text : List ℕ) (d n : ℕ) → d ≡ n → repeat d (encode 32) ++ sign ++ [] ++ [] ++ (text ++ repeat (d - d) (encode 32)) ≡ replicate n 32 ++ (sign ++ text)
joined sign text d n e =
    let none : d - d ≡ 0 = omega arith in
    ap (λ k. repeat d (encode 32) ++ sign ++ [] ++ [] ++ (text ++ repeat k (encode 32))) none
    ∙ ap (λ xs. repeat d (encode 32) ++ sign ++ [] ++ [] ++ xs) (append-nil text)
    ∙ ap (λ xs. xs ++ text) (append-nil (repeat d (encode 32) ++ sign ++ []) ∙ append-nil (repeat d (encode 32) ++ sign))
    ∙ append_assoc (repeat d (encode 32)) sign text
    ∙ ap (λ xs. xs ++ (sign ++ text)) (spaces d ∙ ap (λ k. replicate k 32) e)

pub padded-right : (w : ℕ) (text : List ℕ) → padded_integral (format_spec 32 3 0 w 18446744073709551615) false [] text ≡ right_aligned w text
unfolding padded_integral char_count
padded-right w text = joined [] text (w - length text - 0 - 0) (w - length text) (omega arith)

pub padded-right_minus : (w : ℕ) (text : List ℕ) → padded_integral (format_spec 32 3 0 w 18446744073709551615) true [] text ≡ right_aligned w (45 ∷ text)
unfolding padded_integral char_count
padded-right_minus w text = joined (45 ∷ []) text (w - length text - 1 - 0) (w - suc (length text)) (omega arith)

pub signed-right : (w : ℕ) (z : ℤ) → padded_integral (format_spec 32 3 0 w 18446744073709551615) (is_negative z) [] (decimal (unsigned_abs z)) ≡ right_aligned w (signed_decimal z)
signed-right w (pos n) =
    ap (λ b. padded_integral (format_spec 32 3 0 w 18446744073709551615) b [] (decimal n)) (le-ltb n 0 (omega arith)) ∙ padded-right w (decimal n)
signed-right w (negsuc n) = padded-right_minus w (decimal (suc n))

-- a line of six texts
pub table_made : (a b c d e f a' b' c' d' e' f' : List ℕ) → a ≡ right_aligned 5 a' → b ≡ right_aligned 5 b' → c ≡ right_aligned 8 c' → d ≡ right_aligned 9 d'
    → e ≡ right_aligned 10 e' → f ≡ right_aligned 10 f'
    → (a ++ (32 ∷ (b ++ (32 ∷ (c ++ (32 ∷ (d ++ (32 ∷ (e ++ (32 ∷ f)))))))))) ++ 10 ∷ [] ≡ table_line a' b' c' d' e' f'
unfolding table_line
table_made a b c d e f a' b' c' d' e' f' p q r s t u = rw (p, q, r, s, t, u) (simp append_assoc)
