use denote.RattleType.{RattleType}
use denote.Param.Send.{IsSend}
use Rattle.line_history.specs.declared.Histories.{Ghosts}
use Rattle.line_history.specs.contracts.Mine.{the_row}

pub send : (L : RattleType) (g : Ghosts L.Denot) → IsSend (the_row L g)
send L g = record { owned = λ d vs. ((λ vss. (tt, ((λ uss. (tt, tt)), tt))), tt); leaving = λ k f vs. tt }
