use Rattle.std.proofs.Common.{◌≡◌, ℕ, ◌+◌, ◌*◌, ◌%◌, ◌<◌, ◌^◌, Bool, true, false, ap, ◌∙◌, add-one, pow-suc, arith}
use Rattle.std.proofs.lemmas.Nat.{one_shl, pow_pos}
use Rattle.std.specs.Int.Bits.{or_lt}
use mir.Val.{bool_byte}
use Rattle.tests_whole.proofs.reference.streamed_state.Goals as goal

twice : (i : ℕ) → 2 ^ (i + 1) ≡ 2 ^ i * 2
twice i = ap (λ k. 2 ^ k) (add-one i) ∙ pow-suc 2 i

-- a truth value as the bit of direction i
shifted-lt : (i a : ℕ) (b : Bool) → i < 8 → a ≡ bool_byte b → a * 2 ^ i % 2 ^ 8 < 2 ^ (i + 1)
shifted-lt i a true few is = rw is (omega (arith, one_shl i 8 few, twice i, pow_pos i))
shifted-lt i a false few is = grind (arith, pow_pos)

pub loop-i-preserved : goal.loop-i-preserved
loop-i-preserved g c =
    let i = c.loop-i.i in
    let few : i < 8 = omega (arith, g.met.G.Gas.dirs_are, g.met.G.Gas.laws.few_dirs, c.DIRS-i-end.ensures) in
    or_lt (i + 1) c.loop-i.state _ (omega (arith, twice i, c.loop-i.invariant)) (shifted-lt i c.from.result c.arrives.result few c.from.ensures)
