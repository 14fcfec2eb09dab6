use Rattle.cedar_repl.proofs.Pieces.{is_strict, is_lenient, is_near}
use Rattle.cedar_repl.proofs.talking.talk.Goals as goal

pub returns-clause-strict : goal.returns-clause-strict
returns-clause-strict g c e =
    let r = g.R.Read.remaining in let w = g.W.Write.contents in
    is_strict c.args.manner c.converse-ended.result (r c.args.reader.now) (r c.converse-ended.new.reader)
    (w c.args.writer.now) (w c.converse-ended.new.writer)
    (rw c.new-conversation.ensures.manner at (c.converse-ended.ensures.told c.new-conversation.ensures.has)) e

pub returns-clause-lenient : goal.returns-clause-lenient
returns-clause-lenient g c e =
    let r = g.R.Read.remaining in let w = g.W.Write.contents in
    is_lenient c.args.manner c.converse-ended.result (r c.args.reader.now) (r c.converse-ended.new.reader)
    (w c.args.writer.now) (w c.converse-ended.new.writer)
    (rw c.new-conversation.ensures.manner at (c.converse-ended.ensures.told c.new-conversation.ensures.has)) e

pub returns-clause-near : goal.returns-clause-near
returns-clause-near g c =
    let r = g.R.Read.remaining in let w = g.W.Write.contents in
    is_near c.args.manner c.converse-ended.result (r c.args.reader.now) (r c.converse-ended.new.reader)
    (w c.args.writer.now) (w c.converse-ended.new.writer)
    (rw c.new-conversation.ensures.manner at (c.converse-ended.ensures.told c.new-conversation.ensures.has))
