use Rattle.gas_tool.specs.Outcome.{outcome}
use Rattle.gas_tool.proofs.OneEnd.{same_outcome, same_text, part_of_text, part_of_part, not_refused, same_fault}
use Rattle.gas_tool.proofs.laws.words_and_bytes_have_one_end.Goals as goal

pub returns-clause-one_text : goal.returns-clause-one_text
returns-clause-one_text c words bytes old new new2 left left2 done done2 a b =
    same_text (outcome a.text a.request) old new new2 done done2 a.performed (same_outcome words bytes _ _ _ _ _ _ a b)

pub returns-clause-part_of_it : goal.returns-clause-part_of_it
returns-clause-part_of_it c words bytes old new new2 left left2 done n a b =
    part_of_text (outcome a.text a.request) old new new2 done n a.performed (same_outcome words bytes _ _ _ _ _ _ a b)

pub returns-clause-parts : goal.returns-clause-parts
returns-clause-parts c words bytes old new new2 left left2 m n less a b =
    part_of_part (outcome a.text a.request) old new new2 m n less a.performed (same_outcome words bytes _ _ _ _ _ _ a b)

pub returns-clause-answered : goal.returns-clause-answered
returns-clause-answered c words bytes left left2 old old2 new new2 done fault a b =
    not_refused (outcome a.text a.request) old old2 new new2 done fault a.performed (same_outcome words bytes _ _ _ _ _ _ a b)

pub returns-clause-refused : goal.returns-clause-refused
returns-clause-refused c words bytes left left2 old old2 new new2 fault fault2 memory write a b =
    same_fault (outcome a.text a.request) old old2 new new2 fault fault2 memory write a.performed (same_outcome words bytes _ _ _ _ _ _ a b)
