use Rattle.file_end_to_end.proofs.Systems.{file_systems_hold, file_systems_serve, file_systems_stay, new_file_systems_stand}
use Rattle.file_end_to_end.proofs.law.law_file_systems.Goals as goal

pub returns : goal.returns
returns g c = record {
  begin = λ m. new_file_systems_stand g.S.Store.contents g.S.Store.may_give g.S.Store.count m;
  stay = λ m. file_systems_stay g.S.Store.contents g.S.Store.may_give g.S.Store.count m;
  operations = λ m. file_systems_serve g.S.Store.contents g.S.Store.may_give g.S.Store.count m;
  law = λ m. file_systems_hold g.S.Store.contents g.S.Store.may_give g.S.Store.count m;
}
