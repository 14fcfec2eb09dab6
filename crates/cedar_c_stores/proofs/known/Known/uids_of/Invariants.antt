use Rattle.std.specs.Prelude.{take}
use Rattle.cedar_c_lists.specs.Texts.{AreReadAt}
use Rattle.cedar_c_stores.proofs.known.Known.uids_of.Given as goal

abbrev pub invariant-loop-span : goal.invariant-loop-span
invariant-loop-span l = AreReadAt l.text l.uids.items (take l.span-index l.spans)
