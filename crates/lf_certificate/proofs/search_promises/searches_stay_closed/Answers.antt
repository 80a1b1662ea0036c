use Rattle.lf_certificate.proofs.Laws.{start_closed, take_closed, file_closed, give_back_closed, reclaim_closed, answer_closed, none_closed, down_closed}
use Rattle.lf_certificate.proofs.Laws.{stands_once}
use Rattle.lf_certificate.proofs.search_promises.searches_stay_closed.Goals as goal

pub returns : goal.returns
returns g c = record {
  start = λ w b formula most s some start shape. start_closed w b formula most s some start shape;
  take = λ w b formula most old new path ticket task closed e shape. take_closed w b formula most old new path ticket task closed e shape;
  file = λ w b formula most old new path ticket task m closed e found shape.
      file_closed w b formula most old new path ticket task m closed e found shape;
  give_back = λ w b formula most old new path ticket task closed e shape. give_back_closed w b formula most old new path ticket task closed e shape;
  reclaim = λ w b formula most old new closed e shape. reclaim_closed w b formula most old new closed e shape;
  answer = λ w b formula most old new closed e. answer_closed w b formula most old new closed e;
  none = λ w b formula most old new closed e. none_closed w b formula most old new closed e;
  down = λ w b formula most old new closed e shape. down_closed w b formula most old new closed e shape;
  once = λ w b formula most s p q t u closed h k i j same. stands_once w b formula most s p q t u closed h k i j same;
}
