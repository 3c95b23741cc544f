mod WholeStore
