use Rattle.std.proofs.Common.{refl, arith}
use Rattle.sources.proofs.Cutting.{contents_cut, fault_listed}
use Rattle.sources.proofs.message.cut.Goals as goal

pub returns : goal.returns
returns c =
    let bs = c.args.bytes.now in
    let h = c.in-Some.head in
    let is = c.in-Some.ensures.1 in (
      contents_cut bs h is c.in-Some.arcs.now c.as_chunks.result.0.now c.split_at.result.1.now (record { end = h.end; fixed = c.split_at.result.0; pairs = c.as_chunks-2.result.0 }) c.in-Some.ensures.2 (omega (arith, c.bytes_behind-behind.ensures)) c.as_chunks.ensures.front c.as_chunks.ensures.front_len refl
          c.split_at.ensures.front c.split_at.ensures.back (omega (arith, c.split_at.ensures.front_len, c.split_at.ensures.back_len)) c.as_chunks-2.ensures.front,
      fault_listed bs h is c.in-Some.ensures.0 c.if-head-ne1.false c.if-end-eq0.false c.if-end-gt511.false c.if-fixed-gt2048.false c.if-pairs-gt60.false (omega (arith, c.bytes_behind-behind.ensures)) (omega (arith, c.bytes_behind-behind.ensures)),
    )
