-- Past the limit only the length is kept.
use Prim.Native.Nat.{◌-◌}
use Rattle.page.proofs.laws.Intake.{intake_over, stands_within, puts_behind}
use lib.ListN.{length}
use lib.Seq.{length-take-le}
use mathlib.Core.Path.{refl, sym}
use native.Mathlib.Omega.{arith}
use Rattle.page.proofs.intake.take_in.Goals as goal

pub returns-then-limit-total : goal.returns-then-limit-total
returns-then-limit-total c =
    let limit = length c.args.store.now - 32 in
    record {
      takes_in = record {
        stands = λ blocks seen e st. intake_over blocks seen c.args.piece.now c.args.store.now c.args.n limit e st (omega (arith, c.requires.0)) (omega (arith, c.if-limit-total.true));
        behind = refl;
      };
      prefix_len = (omega (arith, c.requires.0), sym (length-take-le _ c.args.store.now (omega (arith, c.requires.0))));
    }

pub returns : goal.returns
returns c =
    record {
      takes_in = record {
        stands = λ blocks seen e st. stands_within blocks seen c.args.piece.now c.args.store.now c.args.n st c.bytes.new.out c.bytes.result (omega (arith, c.if-limit-total.false)) c.requires.1 c.bytes.ensures;
        behind = puts_behind c.args.piece.now c.args.store.now c.args.n c.bytes.new.out c.bytes.result c.requires.1 c.bytes.ensures;
      };
      prefix_len = (omega (arith, c.requires.0, c.if-limit-total.false, c.bytes.ensures.behind, c.bytes.auto.out), sym (length-take-le c.bytes.result c.bytes.new.out (omega (arith, c.requires.0, c.if-limit-total.false, c.bytes.ensures.behind, c.bytes.auto.out))));
    }
