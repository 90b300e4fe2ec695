use Rattle.std.proofs.Common.{sym, subst}
use Rattle.gas_rows.specs.Planes.{AreWordsOf}
use Rattle.gas_rows.proofs.row.Row.words.Goals as goal

pub returns-clause-words : goal.returns-clause-words
returns-clause-words g c = subst (AreWordsOf g.G.Gas.rules.dirs c.args.self.now) (sym c.copy_from_slice.ensures.after) c.as_words.ensures.words
