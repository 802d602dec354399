use native.Mathlib.Omega.{arith}
use mathlib.Core.Path.{◌∙◌}
use Rattle.flat_file.proofs.Appending.{append_then, append_all, append_count}
use Rattle.unfolding.proofs.Decimals.{next_decimal}
use Rattle.unfolding.proofs.text.write_line.Goals as goal

pub put_bytes-next-requires-2 : goal.put_bytes-next-requires-2
put_bytes-next-requires-2 c = omega (arith, next_decimal _ _ c.put_decimal-next.ensures, c.put_bytes-next.ensures.next_is)

pub put_decimal-next-requires-2 : goal.put_decimal-next-requires-2
put_decimal-next-requires-2 c = omega (arith, next_decimal _ _ c.put_decimal-next.ensures, c.put_bytes-next.ensures.next_is, c.put_bytes-next-2.ensures.next_is)

pub put_byte-requires : goal.put_byte-requires
put_byte-requires c = omega (arith, next_decimal _ _ c.put_decimal-next.ensures, next_decimal _ _ c.put_decimal-next-2.ensures, c.put_bytes-next.ensures.next_is, c.put_bytes-next-2.ensures.next_is)

pub returns : goal.returns
returns c =
    let e = c.from.ensures ∙ c.number.ensures in
    let all = rw e at (append_then (append_then (append_then (append_then c.put_bytes-next.ensures c.put_decimal-next.ensures) c.put_bytes-next-2.ensures) c.put_decimal-next-2.ensures) c.put_byte.ensures) in
    (append_count all, append_all all)
