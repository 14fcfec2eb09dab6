use Rattle.std.specs.Prelude.{map, take}
use Rattle.std.specs.List.{AllZip}
use Rattle.cedar_ids.specs.UidOf.{uid_parts}
use Rattle.cedar_c_bodies.specs.Encoded.{IsUidText}
use Rattle.cedar_c_bodies.proofs.encode.uid_texts.Given as goal

abbrev pub invariant-loop-uid : goal.invariant-loop-uid
invariant-loop-uid l = AllZip IsUidText (map (λ u. uid_parts u.value) (take l.uid-index l.uids)) l.answer
