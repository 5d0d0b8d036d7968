-- Two facts as the answer to a goal of two clauses.
-- Assumes nothing.
pub value_out : {A B : Type 0} → A × B → record { value : A; out_after : B }
value_out h = record { value = h.0; out_after = h.1 }
