pub mod HeldFigures
