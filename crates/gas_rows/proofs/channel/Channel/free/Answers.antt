use Rattle.std.proofs.Common.{◌≡◌, ℕ, Bool, true, false, List, [], length, replicate, ap, ◌∙◌, sym, subst, arith}
use Rattle.std.proofs.lemmas.List.{get_or-replicate, length-replicate}
use Rattle.gas_geom.specs.Size.{IsSize}
use Rattle.gas_geom.specs.Channel.{IsChannel, free_channel}
use Rattle.gas_rows.proofs.channel.Channel.free.Goals as goal

IsChannel-free : (width height : ℕ) → IsSize width height → IsChannel (free_channel width height)
IsChannel-free width height size = record {
  size = size;
  high = length-replicate height (replicate width false);
  wide = λ y h. ap length (get_or-replicate height y (replicate width false) [] h) ∙ length-replicate width false;
}

pub invariant_of-result : goal.invariant_of-result
invariant_of-result c =
    let width : ℕ = c.args.size.width in
    let all : c.loop.counter ≡ c.args.size.height = omega arith in
    record {
      whole = subst (λ (s : List (List Bool)). IsChannel (record { width = width; height = c.args.size.height; solid = s }))
          (sym (c.loop.invariant ∙ ap (λ n. replicate n (replicate width false)) all))
          (IsChannel-free width c.args.size.height c.height.ensures.within);
      wall = c.fill.ensures ∙ ap (λ n. replicate n true) (ap length c.in_ok-wall.ensures.value ∙ length-replicate _ false ∙ c.width-2.ensures.value);
    }
